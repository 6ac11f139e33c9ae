use Rattle.std.proofs.Common.{length}
use Rattle.der_view.proofs.plan.+best.Given as goal

abbrev pub decreases-best : goal.decreases-best
decreases-best l = length l.others.now
