-- What a run reads and writes, and the status of the program. Here `Taken` says of bytes that they
-- and no others were taken, and `Ended` that the input has ended.
use Rattle.std.specs.Prelude.{◌≡◌, ℕ, ◌+◌, ◌≤◌, ◌⊎◌, List, ◌++◌, Option, IfSome, length, codes}
use Rattle.std.specs.Io.KnownBytes.{Appends}
use Rattle.sec1.specs.Der.{AppendsPrefix}
use Rattle.sec1_inspect.specs.declared.Failure.{Failure}
use Rattle.sec1_inspect.specs.declared.Failure.TheVariants.{Run, Paths}
use Rattle.sec1_inspect.specs.declared.Fault.{Fault}
use Rattle.sec1_inspect.specs.declared.Fault.TheVariants.{Input, Output, Memory}
use Rattle.sec1_inspect.specs.declared.Form.{Form}
use Rattle.sec1_inspect.specs.declared.Form.TheVariants.{Text, Der}
use Rattle.sec1_inspect.specs.Report.{IsDerReport, IsReport, limit}

-- these bytes were taken: all of the input, or one byte more than an input may have
pub record TakesInput (Taken : List ℕ → Type 0) (Ended : Type 0) (bytes : List ℕ) : Type 0 where
  pub taken : Taken bytes
  pub bounded : length bytes ≤ limit + 1
  pub whole : (length bytes ≡ limit + 1) ⊎ Ended

-- an input was read, and this is the report on the bytes that were taken, and on the whole input if
-- it is known
pub record ReportsOn (IsReport : List ℕ → List ℕ → ℕ → Type 0) (Taken : List ℕ → Type 0)
    (Ended : Type 0) (input : Option (List ℕ)) (text : List ℕ) (status : ℕ) : Type 0 where
  pub bytes : List ℕ
  pub read : TakesInput Taken Ended bytes
  pub of_bytes : IsReport bytes text status
  pub of_input : IfSome input (λ all. IsReport all text status)

-- the whole of a text was written that is such, with this status
pub record WritesReport (IsSuch : List ℕ → ℕ → Type 0) (old new : Option (List ℕ))
    (status : ℕ) : Type 0 where
  pub text : List ℕ
  pub appended : Appends old new text
  pub report : IsSuch text status

-- a prefix of a text was written that is such, with some status
pub record WritesPrefix (IsSuch : List ℕ → ℕ → Type 0) (old new : Option (List ℕ)) : Type 0 where
  pub text : List ℕ
  pub status : ℕ
  pub appended : AppendsPrefix old new text
  pub report : IsSuch text status

-- the report on an input in this form
abbrev pub report_in : Form → List ℕ → List ℕ → ℕ → Type 0
report_in Text = IsReport
report_in Der = IsDerReport

-- a report on the input has this status
pub record HasStatus (IsReport : List ℕ → List ℕ → ℕ → Type 0) (input : Option (List ℕ))
    (status : ℕ) : Type 0 where
  pub text : List ℕ
  pub report : IfSome input (λ bytes. IsReport bytes text status)

-- the text of an error
abbrev pub fault_text : Fault → List ℕ
fault_text Input = codes "input failed"
fault_text Output = codes "output failed"
fault_text Memory = codes "out of memory"

-- the line that is printed if there is no report
abbrev pub line_of : Failure → List ℕ
line_of (Run error) = codes "sec1_inspect: " ++ fault_text error
line_of Paths = codes "sec1_inspect: at most one path"
