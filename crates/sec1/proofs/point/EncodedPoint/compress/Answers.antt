use Rattle.std.proofs.Common.{arith, sym}
use Rattle.sec1.proofs.EncodedPointLemmas.{compressed_holds}
use Rattle.sec1.proofs.point.EncodedPoint.compress.Goals as goal

pub invariant_of-result-clause-encoded : goal.invariant_of-result-clause-encoded
invariant_of-result-clause-encoded g c =
    let front = rw (sym c.with_first.ensures) at c.compressed_front-tag.ensures.1 in
    (compressed_holds c.args.self.now _ front).encoded

pub returns : goal.returns
returns g c =
    let front = rw (sym c.with_first.ensures) at c.compressed_front-tag.ensures.1 in
    let point = (compressed_holds c.args.self.now _ front).means in
    record { point = point; same_x = grind arith; once = grind arith; kept = grind arith }
