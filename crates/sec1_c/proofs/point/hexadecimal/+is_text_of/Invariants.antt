use Rattle.std.proofs.Common.{length}
use Rattle.sec1_c.proofs.point.hexadecimal.+is_text_of.Given as goal

abbrev pub decreases-is_text_of : goal.decreases-is_text_of
decreases-is_text_of l = length l.bytes.now
