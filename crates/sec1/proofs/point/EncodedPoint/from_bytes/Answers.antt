use Rattle.std.proofs.Common.{ℕ, length, drop, replicate, ap, take_at, arith}
use Rattle.std.proofs.lemmas.List.{take_all}
use Rattle.sec1.proofs.EncodedPointLemmas.{read_bytes}
use Rattle.sec1.proofs.PointLemmas.{encoding_of_meaning}
use Rattle.sec1.proofs.point.EncodedPoint.from_bytes.Goals as goal

pub invariant_of-result-clause-encoded : goal.invariant_of-result-clause-encoded
invariant_of-result-clause-encoded g c =
    let chunk = c.in-Some.ensures.cases in
    rw (chunk.same, take_all {A = ℕ} (length c.args.input.now) c.args.input.now (omega arith))
    (encoding_of_meaning g.row.N c.args.input.now (c.is_encoding.ensures.0 c.if-not-is_encoding.false))

pub returns-in-Some : goal.returns-in-Some
returns-in-Some g c =
    let chunk = c.in-Some.ensures.cases in
    let input = c.args.input.now in
    read_bytes input _ (rw chunk.same (take_all {A = ℕ} (length input) input (omega arith)))
    (c.is_encoding.ensures.0 c.if-not-is_encoding.false)

pub invariant_of-result-2-clause-encoded : goal.invariant_of-result-2-clause-encoded
invariant_of-result-2-clause-encoded g c =
    let len = length c.args.input.now in
    let front =
    take_at c.copy_short.new.to (drop len (replicate {A = ℕ} g.row.L 0)) len
    (ap length c.copy_short.ensures) in
    rw (front, c.copy_short.ensures)
    (encoding_of_meaning g.row.N c.args.input.now (c.is_encoding.ensures.0 c.if-not-is_encoding.false))

pub returns : goal.returns
returns g c =
    read_bytes c.args.input.now _ (grind (arith, take_at {A = ℕ})) (c.is_encoding.ensures.0 c.if-not-is_encoding.false)
