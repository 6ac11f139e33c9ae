use Rattle.std.proofs.Common.{length}
use Rattle.sec1_c.proofs.signature.number.Number.+new.Given as goal

abbrev pub decreases-new : goal.decreases-new
decreases-new l = length l.digits.now
