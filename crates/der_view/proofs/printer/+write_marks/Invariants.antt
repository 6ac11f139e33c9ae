use Rattle.std.proofs.Common.{length}
use Rattle.der_view.proofs.printer.+write_marks.Given as goal

abbrev pub decreases-write_marks : goal.decreases-write_marks
decreases-write_marks g l = length l.marks.now
