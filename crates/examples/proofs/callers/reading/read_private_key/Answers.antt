use Rattle.std.proofs.Common.{◌≡◌}
use Rattle.std.proofs.lemmas.Result.{IfOk-weaker}
use Rattle.examples.proofs.callers.reading.read_private_key.Goals as goal

pub returns-clause-found : goal.returns-clause-found
returns-clause-found c =
    IfOk-weaker c.ec_private_key.result _ _
    (λ key has. (c.in_ok-info.info, c.in_ok-info.ensures.found, has.0, has.1, has.2, has.3))
    c.ec_private_key.ensures.found

pub returns-clause-no_key : goal.returns-clause-no_key
returns-clause-no_key c info curve kind is on fault =
    let same : c.in_ok-info.info ≡ info = cc (c.in_ok-info.ensures.only info is) in
    c.ec_private_key.ensures.no_key curve kind (rw same on) (rw same fault)
