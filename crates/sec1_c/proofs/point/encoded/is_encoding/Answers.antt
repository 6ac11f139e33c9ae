use Rattle.std.proofs.Common.{◌∙◌, ap, length, arith}
use Rattle.sec1.specs.Points.{encoding}
use Rattle.sec1.specs.Tags.{point_tag}
use Rattle.sec1.proofs.PointLemmas.{byte_of-tag_of, passing_encodings}
use Rattle.sec1_c.proofs.point.encoded.is_encoding.Goals as goal

pub returns-in_default : goal.returns-in_default
unfolding encoding
returns-in_default c = (λ h. absurd cc, λ h. absurd (omega (arith, c.in_default.ensures.cases, ap length h.encoded)))

pub returns-in_default-from_u8 : goal.returns-in_default-from_u8
unfolding encoding
returns-in_default-from_u8 c = (
  λ h. absurd cc,
  λ h. absurd (c.in_default-from_u8.ensures.1 (point_tag h.of)
      (byte_of-tag_of h.of ∙ cc (h.encoded, c.in-Some.ensures.cases.0))),
)

pub returns-then-bytes-message_len : goal.returns-then-bytes-message_len
returns-then-bytes-message_len c =
    let passes = passing_encodings c.args.n c.in-Ok.tag c.in-Some.rest.now c.args.bytes.now c.requires.positive in
    grind (arith, passes, c.in-Some.ensures.cases)

pub returns-else-not-is_hybrid : goal.returns-else-not-is_hybrid
returns-else-not-is_hybrid c =
    let passes = passing_encodings c.args.n c.in-Ok.tag c.in-Some.rest.now c.args.bytes.now c.requires.positive in
    grind (arith, passes, c.in-Some.ensures.cases)

pub returns-then-not-is_hybrid : goal.returns-then-not-is_hybrid
returns-then-not-is_hybrid c =
    let passes = passing_encodings c.args.n c.in-Ok.tag c.in-Some.rest.now c.args.bytes.now c.requires.positive in
    grind (arith, passes, c.in-Some.ensures.cases)
