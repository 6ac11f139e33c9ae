use Rattle.std.proofs.Common.{length, arith}
use Rattle.sec1.proofs.HexLemmas.{decoded, decodes, hex_is_one_case}
use Rattle.sec1.proofs.point.text.decode_digits.Goals as goal

pub returns-then-is_one_case : goal.returns-then-is_one_case
returns-then-is_one_case c bytes = (
  λ h. grind (arith, decodes c.args.text.now bytes (length c.args.out.now) c.requires h.0 h.1),
  λ h. grind (arith, decoded),
)

pub returns-else-is_one_case : goal.returns-else-is_one_case
returns-else-is_one_case c bytes = (
  λ h. absurd (cc (hex_is_one_case c.args.text.now bytes h.0, c.is_one_case.ensures, c.if-is_one_case.false)),
  λ h. absurd (cc (h.0)),
)
