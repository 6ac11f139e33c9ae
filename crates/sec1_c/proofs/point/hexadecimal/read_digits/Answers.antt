use Rattle.std.proofs.Common.{length, arith, inl, inr}
use Rattle.sec1.proofs.HexLemmas.{decodes}
use Rattle.sec1_c.proofs.point.hexadecimal.read_digits.Goals as goal

pub returns-then-is_text_of-clause-only : goal.returns-then-is_text_of-clause-only
returns-then-is_text_of-clause-only c known in_range is =
    grind (arith, decodes c.args.text.now known (length c.args.bytes.now) c.requires is in_range)

pub returns-else-is_text_of-clause-only : goal.returns-else-is_text_of-clause-only
returns-else-is_text_of-clause-only c known in_range (inl upper) =
    grind (arith, upper, decodes c.args.text.now known (length c.args.bytes.now) c.requires (inl upper) in_range)
returns-else-is_text_of-clause-only c known in_range (inr lower) =
    grind (arith, lower, decodes c.args.text.now known (length c.args.bytes.now) c.requires (inr lower) in_range)

pub returns-else-is_ok-clause-only : goal.returns-else-is_ok-clause-only
returns-else-is_ok-clause-only c known in_range is =
    absurd (grind (arith, decodes c.args.text.now known (length c.args.bytes.now) c.requires is in_range))
