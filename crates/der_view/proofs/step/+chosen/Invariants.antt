use Rattle.std.proofs.Common.{length}
use Rattle.der_view.proofs.step.+chosen.Given as goal

abbrev pub decreases-chosen : goal.decreases-chosen
decreases-chosen l = length l.cases.now
