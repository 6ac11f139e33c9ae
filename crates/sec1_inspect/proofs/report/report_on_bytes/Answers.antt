use Rattle.std.proofs.Common.{inr}
use Rattle.std.proofs.lemmas.Result.{IfOk-weaker}
use Rattle.sec1_inspect.proofs.report.report_on_bytes.Goals as goal

pub returns-in-Err : goal.returns-in-Err
returns-in-Err c =
    IfOk-weaker _ _ _
    (λ report no_key. inr (λ key is_key. absurd (cc (c.try_from.ensures.only key is_key)), no_key))
    c.no_key_report.ensures
