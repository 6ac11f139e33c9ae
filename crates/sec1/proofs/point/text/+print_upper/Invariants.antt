use Rattle.std.proofs.Common.{length}
use Rattle.sec1.proofs.point.text.+print_upper.Given as goal

abbrev pub decreases-print_upper : goal.decreases-print_upper
decreases-print_upper g l = length l.bytes.now
