-- What was read and written is the report on the whole input.
use Rattle.std.proofs.Common.{◌≡◌, ◌+◌, ◌⊎◌, ℕ, inl, inr, List, ◌++◌, length, Option, Some, None, IfSome, Result, Ok}
use Rattle.std.proofs.Common.{⊎_elim, Err, IfOk, OnOk, arith, sym, ap}
use Rattle.std.proofs.Common.{subst, ◌∙◌, append-nil, length-append}
use Rattle.std.proofs.KnownBytes.{Appends-trans, Consumes-trans}
use Rattle.std.specs.Io.KnownBytes.{Appends, Consumes, IsAtEnd}
use Rattle.sec1.specs.Der.{Ends, Takes}
use Rattle.sec1_der.specs.Streams.{ReadsOnto}
use Rattle.sec1_inspect.specs.declared.Fault.{Fault}
use Rattle.sec1_inspect.specs.Report.{IsReportUnlessLong, limit}
use Rattle.sec1_inspect.specs.Run.{HasStatus, ReportsOn, TakesInput, WritesReport}

report_on_known : (IsReportOn : List ℕ → List ℕ → ℕ → Type 0) (old new : Option (List ℕ))
    (taken text : List ℕ) (status : ℕ)
    → Consumes old new taken → (length taken ≡ limit + 1) ⊎ IsAtEnd new
    → IsReportUnlessLong IsReportOn taken text status
    → IfSome old (λ input. IsReportUnlessLong IsReportOn input text status)
report_on_known IsReportOn None new taken text status consumed whole report = tt
report_on_known IsReportOn (Some xs) None taken text status consumed whole report = absurd consumed
report_on_known IsReportOn (Some xs) (Some ys) taken text status consumed (inr end) report =
    subst (λ (l : List ℕ). IsReportUnlessLong IsReportOn l text status)
    (sym (consumed ∙ ap (λ l. taken ++ l) end ∙ append-nil taken)) report
report_on_known IsReportOn (Some xs) (Some ys) taken text status consumed (inl long) (inl refusal) =
    inl (rw consumed (simp length-append (omega arith)), refusal.1)
report_on_known IsReportOn (Some xs) (Some ys) taken text status consumed (inl long) (inr report) =
    absurd (omega (arith, report.0))

-- The report on what was read is that on the input.
pub report_on_read : (IsReportOn : List ℕ → List ℕ → ℕ → Type 0) {S : Type 0} (left taken : S → Option (List ℕ))
    (ended : S → Type 0) (old new : S) (bytes text : List ℕ) (status : ℕ)
    → TakesInput (Takes left taken old new) (Ends left ended new) bytes
    → IsReportUnlessLong IsReportOn bytes text status
    → ReportsOn (IsReportUnlessLong IsReportOn) (Takes left taken old new) (Ends left ended new) (left old) text status
report_on_read IsReportOn left taken ended old new bytes text status read report = record {
  bytes = bytes;
  read = read;
  of_bytes = report;
  of_input =
      report_on_known IsReportOn (left old) (left new) bytes text status read.taken.consumed
      (⊎_elim (λ long. inl long) (λ end. inr end.none_left) read.whole) report;
}

-- A read appends what it takes to what was taken.
pub takes_onto : {S : Type 0} (left taken : S → Option (List ℕ)) (old mid new : S) (before after : List ℕ) (n : ℕ)
    → Takes left taken old mid before → ReadsOnto (Takes left taken mid new) before after n
    → Takes left taken old new after
takes_onto left taken old mid new before after n first read = rw read.appended
    (record {
      consumed = Consumes-trans _ _ _ before read.bytes first.consumed read.taken.consumed;
      appended = Appends-trans _ _ _ before read.bytes first.appended read.taken.appended;
    })

-- The whole text of the report was written, and its status returned.
pub whole_report : (IsSuch : List ℕ → ℕ → Type 0) (old new : Option (List ℕ)) (text : List ℕ) (status : ℕ)
    (r : Result ℕ Fault) → IsSuch text status → IfOk r (λ s. s ≡ status) → OnOk r (Appends old new text)
    → IfOk r (WritesReport IsSuch old new)
whole_report IsSuch old new text status (Ok s) report same appended =
    record { text = text; appended = appended; report = rw same report }
whole_report IsSuch old new text status (Err e) report same appended = tt

-- A report that was written on a known input has its status.
pub has_status : (IsReport : List ℕ → List ℕ → ℕ → Type 0) (Taken : List ℕ → Type 0) (Ended : Type 0)
    (input old new : Option (List ℕ)) (status : ℕ)
    → WritesReport (ReportsOn IsReport Taken Ended input) old new status → HasStatus IsReport input status
has_status IsReport Taken Ended input old new status written =
    record { text = written.text; report = written.report.of_input }
