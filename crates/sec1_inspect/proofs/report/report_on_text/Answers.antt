use Rattle.std.proofs.Common.{◌≡◌, Ok, inr}
use Rattle.std.proofs.lemmas.Result.{IfOk-weaker}
use Rattle.hex.specs.Hex.{decode_of}
use Rattle.sec1_inspect.specs.Report.{stripped}
use Rattle.sec1_inspect.proofs.report.report_on_text.Goals as goal

pub returns-in-Ok : goal.returns-in-Ok
returns-in-Ok c =
    let encoded : decode_of (stripped c.args.input.now) ≡ Ok c.in-Ok.bytes.items =
    rw (c.as_slice.ensures.value, c.in_ok-digits.ensures) at c.in-Ok.ensures.ok in
    IfOk-weaker _ _ _ (λ report on_bytes. inr (c.if-input-gt-LIMIT.false, rw encoded on_bytes))
    (rw c.deref.ensures.value at c.report_on_bytes.ensures)
