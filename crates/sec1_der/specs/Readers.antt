-- The state of a reader, the remaining input and whether it has failed; and what calls that read
-- return.
use Rattle.std.specs.Prelude.{◌≡◌, ◌⊎◌, ◌≤◌, ◌-◌, Bool, false, true, List, [], ◌++◌, length, drop}
use Rattle.std.specs.Prelude.{ℕ, Option, Some, Result, IsOk, IfOk, IfErr, OnOk, OnErr, Ok}
use Rattle.sec1_der.specs.Elements.{max_length, element, element_of}
use Rattle.sec1_der.specs.Errors.{Refuses, IsReadingFault}
use Rattle.sec1_der.specs.Faults.{Fault, HasFault, element_fault, end_fault}
use Rattle.sec1_der.specs.declared.error.Error.{Error}
use Rattle.sec1_der.specs.declared.error.ErrorKind.TheVariants.{Failed}

pub record Reader : Type 0 where
  pub unread : List ℕ
  pub failed : Bool

-- a reader that hasn't failed, with this remaining input
abbrev pub reader_over : List ℕ → Reader
reader_over bytes = record { unread = bytes; failed = false }

-- the reader, after it has failed
abbrev pub failed_reader : Reader → Reader
failed_reader r = record { unread = r.unread; failed = true }

-- the bytes are none, or the end of the others
abbrev pub IsSuffix : List ℕ → List ℕ → Type 0
IsSuffix bytes whole = (bytes ≡ []) ⊎ (bytes ≡ drop (length whole - length bytes) whole)

-- a reader that hadn't failed read exactly these bytes
pub record HasRead (bytes : List ℕ) (old new : Reader) : Type 0 where
  pub was_unfailed : old ≡ reader_over (bytes ++ new.unread)
  pub unfailed : new ≡ reader_over new.unread

-- a reader that hadn't failed read exactly the element with this tag and content
pub record HasReadElement (tag : ℕ) (content : List ℕ) (old new : Reader) : Type 0 where
  pub bounded : length content ≤ max_length
  pub read : HasRead (element tag content) old new

-- whether a call of a reader refuses, by which kind, and what the error leaves
pub record RefusesBy {T : Type 0} (fault : Fault) (result : Result T Error)
    (old new : Reader) : Type 0 where
  -- the kind is a function of the remaining input
  pub kind : old.failed ≡ false → HasFault result (fault old.unread)
  pub kinds : old.failed ≡ false → IfErr result (λ e. IsReadingFault e.kind)
  -- a reader that had failed refuses every call, and stays as it was
  pub failed : old.failed ≡ true → Refuses result Failed × (new ≡ old)
  -- the reader is as it was, but it has failed
  pub left : OnErr result (new ≡ failed_reader old)

-- The remaining input is read as the content of a value. `content` gives that of a value, and
-- `fault` is the rule by which bytes are refused.
pub record ReadsContent {T : Type 0} (content : T → Option (List ℕ)) (fault : Fault)
    (result : Result T Error) (old new : Reader) : Type 0 where
  pub found : IfOk result (λ value. content value ≡ Some old.unread)
  pub read : OnOk result (new ≡ reader_over [])
  -- the content of each value is read
  pub only : old.failed ≡ false → (value : T) → content value ≡ Some old.unread → IsOk result
  pub kinds : old.failed ≡ false → IfErr result (λ e. IsReadingFault e.kind)
  -- the kind is a function of the remaining input
  pub kind : old.failed ≡ false → HasFault result (fault old.unread)
  -- a reader that had failed stays as it was
  pub failed : old.failed ≡ true → Refuses result Failed × (new ≡ old)
  -- after an error the reader has failed, and its remaining input is what it was or the end of it
  pub refused : OnErr result ((new.failed ≡ true) × IsSuffix new.unread old.unread)

-- The bytes are read as those of a value. `encoding` gives these of a value, and `fault` is the
-- rule by which others are refused.
pub record ReadsWhole {T : Type 0} (encoding : T → Option (List ℕ)) (fault : Fault)
    (bytes : List ℕ) (result : Result T Error) : Type 0 where
  -- what is read has these bytes
  pub found : IfOk result (λ value. encoding value ≡ Some bytes)
  -- the value with these bytes is read
  pub only : (value : T) → encoding value ≡ Some bytes → result ≡ Ok value
  pub kinds : IfErr result (λ e. IsReadingFault e.kind)
  -- whether the bytes are refused, and by which kind, is a function of them
  pub kind : HasFault result (fault bytes)

-- The bytes are read as the element of a value. `content` gives that of a value, and `fault` is the
-- rule by which contents are refused.
abbrev pub ReadsElement : {T : Type 0} → ℕ → (T → Option (List ℕ)) → Fault → List ℕ
    → Result T Error → Type 0
ReadsElement tag content fault =
    ReadsWhole (λ value. element_of tag (content value)) (element_fault tag fault end_fault)
