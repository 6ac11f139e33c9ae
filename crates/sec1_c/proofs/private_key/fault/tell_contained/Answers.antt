use Rattle.std.proofs.Common.{◌≡◌}
use Rattle.sec1_c.proofs.private_key.fault.tell_contained.Goals as goal

pub returns-in-Some-clause-no_key_inside : goal.returns-in-Some-clause-no_key_inside
returns-in-Some-clause-no_key_inside c container curve fault is on refused =
    let same : c.in-Ok.container ≡ container = cc (c.in-Ok.ensures.only container is) in
    rw (← same) (c.tell_key.ensures.no_key fault (rw same refused))
