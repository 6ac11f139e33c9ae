use Rattle.std.proofs.Common.{length}
use Rattle.der_view.proofs.step.+fitting.Given as goal

abbrev pub decreases-fitting : goal.decreases-fitting
decreases-fitting l = length l.components.now
