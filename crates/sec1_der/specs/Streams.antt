-- What calls over readers and writers do to the remaining input and to the bytes written; and what
-- reading one element from a stream takes from it, and why it is refused.
use Rattle.std.specs.Prelude.{◌≡◌, ℕ, List, ◌++◌, Option, length, ◌↔◌, ◌<◌, ◌⊎◌, [], ◌∷◌, Some}
use Rattle.std.specs.Prelude.{Bool, IsTrue, Result, IfOk, IfErr}
use Rattle.std.specs.Io.KnownBytes.{Appends, Consumes, IsAtEnd}
use Rattle.sec1_der.specs.Elements.{IsHeader, IsElement, header}
use Rattle.sec1_der.specs.Errors.{Refuses}
use Rattle.sec1_der.specs.Faults.{document_fault}
use Rattle.sec1_der.specs.declared.error.Error.{Error}
use Rattle.sec1_der.specs.declared.error.ErrorKind.{ErrorKind}
use Rattle.sec1_der.specs.declared.error.ErrorKind.TheVariants.{Truncated, Tag, Length}
use Rattle.sec1_der.specs.declared.error.ErrorKind.TheVariants.{TrailingData, Io, Memory}

-- these bytes and no others were taken from a reader: the remaining input, if it is known, begins
-- with them and loses them, and the bytes that were taken, if they are known, grow by them
pub record Takes {S : Type 0} (left taken : S → Option (List ℕ)) (old new : S)
    (bytes : List ℕ) : Type 0 where
  pub consumed : Consumes (left old) (left new) bytes
  pub appended : Appends (taken old) (taken new) bytes

-- the input of a reader has ended
pub record Ends {S : Type 0} (left : S → Option (List ℕ)) (ended : S → Type 0)
    (reader : S) : Type 0 where
  pub none_left : IsAtEnd (left reader)
  pub known : ended reader

-- n bytes were read, and appended to those that were there
pub record ReadsOnto (Taken : List ℕ → Type 0) (before after : List ℕ) (n : ℕ) : Type 0 where
  pub bytes : List ℕ
  pub taken : Taken bytes
  pub appended : after ≡ before ++ bytes
  pub count : length bytes ≡ n

-- a prefix of the bytes was written
pub record AppendsPrefix (old new : Option (List ℕ)) (bytes : List ℕ) : Type 0 where
  pub front : List ℕ
  pub rest : List ℕ
  pub joined : bytes ≡ front ++ rest
  pub appended : Appends old new front

-- The bytes have this fault, and it came with the last of them: the others are such that `Before`
-- holds.
abbrev EndsWithFault : ErrorKind → (List ℕ → Type 0) → List ℕ → Type 0
EndsWithFault kind Before bytes =
    (front : List ℕ) × (last : ℕ) × (bytes ≡ front ++ last ∷ []) × Before front
    × (document_fault bytes ≡ Some (Some kind))

-- The bytes that were taken before an element is refused by this kind: all that there were of a
-- truncated element; the first byte that shows a bad tag, a bad length or trailing data, and those
-- before it; at most an element if a read failed; an element, or a header and fewer bytes than it
-- announces, if an allocation failed.
abbrev pub TakenBeforeRefusal : ErrorKind → List ℕ → Type 0
TakenBeforeRefusal Truncated taken = document_fault taken ≡ Some (Some Truncated)
TakenBeforeRefusal Tag taken = EndsWithFault Tag (λ front. front ≡ []) taken
TakenBeforeRefusal Length taken =
    EndsWithFault Length (λ front. document_fault front ≡ Some (Some Truncated)) taken
TakenBeforeRefusal TrailingData taken = EndsWithFault TrailingData IsElement taken
TakenBeforeRefusal Io taken = (document_fault taken ≡ Some (Some Truncated)) ⊎ IsElement taken
TakenBeforeRefusal Memory taken =
    ((tag : ℕ) × (n : ℕ) × (content : List ℕ) × IsHeader tag n × (length content < n)
    × (taken ≡ header tag n ++ content)) ⊎ IsElement taken
TakenBeforeRefusal _ taken = ⊥

-- an element was refused by this kind after these bytes were read; if it was Truncated, no input
-- remains
pub record RefusesElement (kind : ErrorKind) (Taken : List ℕ → Type 0)
    (Ended : Type 0) : Type 0 where
  pub bytes : List ℕ
  pub taken : Taken bytes
  pub by_kind : TakenBeforeRefusal kind bytes
  pub at_end : kind ≡ Truncated → Ended

-- The result of a call that reads an element, or its header, from a stream: what is found, or which
-- bytes were taken before it was refused. The kind is Io exactly if a read failed.
pub record ReadsStream {T : Type 0} (Found : T → Type 0) (Taken : List ℕ → Type 0) (Ended : Type 0)
    (failed : Bool) (result : Result T Error) : Type 0 where
  pub io : Refuses result Io ↔ IsTrue failed
  pub found : IfOk result Found
  pub refused : IfErr result (λ error. RefusesElement error.kind Taken Ended)
