use Rattle.std.proofs.Common.{◌∙◌, arith, ◌≡◌, ◌≤◌, ◌/◌, ℕ, length, drop, replicate, refl, rules, take_at, length-take}
use Rattle.std.proofs.lemmas.List.{length-replicate}
use Rattle.sec1.specs.Points.{encoding}
use Rattle.sec1.proofs.PointLemmas.{IsBytes-enc, length-enc-le}
use Rattle.sec1.specs.HexTexts.{IsHexOf}
use Rattle.sec1.proofs.HexLemmas.{text_len}
use Rattle.sec1.proofs.point.EncodedPoint.from_digits.Goals as goal

pub returns-then-len : goal.returns-then-len
returns-then-len g c = record {
  found = tt;
  only = λ p fit _ encoded.
      let bytes = encoding g.row.N p in
      let room : length c.args.text.now / 2 ≤ g.row.L =
      omega (arith, fit.1, text_len c.args.text.now bytes encoded, length-enc-le g.row.N p) in
      grind (arith, IsBytes-enc g.row.N p, encoded);
  kind = refl;
}

pub returns : goal.returns
returns g c =
    let half = length c.args.text.now / 2 in
    let buffer = replicate {A = ℕ} g.row.L 0 in
    let len : length c.decode_digits.new.out ≡ half =
    omega (arith, length-take half buffer, length-replicate {A = ℕ} g.row.L 0) in
    let front = take_at c.decode_digits.new.out (drop half buffer) half len in
    record {
      found =
          let out = c.decode_digits.new.out in
          let hex : IsHexOf c.args.text.now out = ((c.decode_digits.ensures out).1 (search rules, refl)).0 in
          search rules;
      only = λ p fit fits encoded.
          c.from_bytes.ensures.point.only p fit fits
          (front ∙ ((c.decode_digits.ensures (encoding g.row.N p)).0 (encoded, IsBytes-enc g.row.N p)).1);
      kind = c.from_bytes.ensures.point.kind;
    }
