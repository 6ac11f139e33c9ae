use Rattle.std.proofs.Common.{sym}
use Rattle.der_types.proofs.SetLemmas.{next_split, set_continues, set_falls, set_stops, not_above}
use Rattle.der_types.proofs.set_of.is_ascending.Goals as goal

pub returns-then-gt : goal.returns-then-gt
returns-then-gt c =
    let (is, split) = c.in-Ok.ensures.exact in
    let below = not_above c.loop-after.last.now _ _ c.if-gt.ensures in
    sym (set_falls _ _ _ _ _ c.loop-after.invariant.rest (next_split _ _ _ _ is split) below)

pub loop-after-preserved : goal.loop-after-preserved
loop-after-preserved c =
    let (is, split) = c.in-Ok.ensures.exact in
    let above = not_above c.loop-after.last.now _ _ c.if-gt.ensures in
    record { rest = set_continues _ _ _ _ _ c.loop-after.invariant.rest (next_split _ _ _ _ is split) above }

pub returns : goal.returns
returns c = sym (set_stops _ _ _ _ c.loop-after.invariant.rest c.in_default.ensures.exact.1)
