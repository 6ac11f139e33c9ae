use Rattle.std.proofs.Common.{rules, string_bytes}
use Rattle.sec1_inspect.specs.Report.{IsDerReport, IsReportOnBytes}
use Rattle.sec1_inspect.proofs.ReportLemmas.{report_on_read, whole_report}
use Rattle.sec1_inspect.proofs.run_der.Goals as goal

pub returns-clause-report : goal.returns-clause-report
returns-clause-report g c =
    let report = c.in_ok-report.report in
    let on_taken : IsDerReport c.in_ok-input.input.items (string_bytes report.text) report.status =
    rw c.deref.ensures.value at c.in_ok-report.ensures in
    let on_input = report_on_read IsReportOnBytes _ _ _ _ _ _ _ _ c.in_ok-input.ensures.read on_taken in
    whole_report _ _ _ _ _ _ on_input c.write_report.ensures.status c.write_report.ensures.whole

pub returns-clause-prefix : goal.returns-clause-prefix
returns-clause-prefix g c failed =
    let report = c.in_ok-report.report in
    let on_taken : IsDerReport c.in_ok-input.input.items (string_bytes report.text) report.status =
    rw c.deref.ensures.value at c.in_ok-report.ensures in
    record {
      text = string_bytes report.text;
      status = report.status;
      appended = search (rules, c.write_report.ensures.prefix);
      report = report_on_read IsReportOnBytes _ _ _ _ _ _ _ _ c.in_ok-input.ensures.read on_taken;
    }
