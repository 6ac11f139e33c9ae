use Rattle.std.proofs.Common.{length}
use Rattle.der_types.proofs.SetLemmas.{IsSetRest}
use Rattle.der_types.proofs.set_of.is_ascending.Given as goal

abbrev pub invariant-loop-after : goal.invariant-loop-after
invariant-loop-after l = record { rest : IsSetRest l.bytes l.last l.rest }

abbrev pub decreases-loop-after : goal.decreases-loop-after
decreases-loop-after l = length l.rest
