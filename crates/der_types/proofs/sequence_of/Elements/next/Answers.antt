use Rattle.std.proofs.Common.{arith}
use Rattle.der_types.proofs.SequenceLemmas.{elements_left}
use Rattle.der_types.proofs.sequence_of.Elements.next.Goals as goal

pub returns-in-Ok-clause-checked : goal.returns-in-Ok-clause-checked
returns-in-Ok-clause-checked g c none =
    let checked = rw (← c.self.view_is) at none in
    let left = elements_left _ _ _ c.decode.result _ _ checked
    (omega (arith, c.if-remaining_len-eq0.false, c.remaining_len.ensures))
    c.decode.ensures.found (c.decode.ensures.refused.kind c.self.inside.working) in
    left.1
