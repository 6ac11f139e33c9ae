-- A stream that is read or refused, and the fault of its bytes.
use Rattle.std.proofs.Common.{◌≡◌, ◌⊎◌, ⊎_elim, inl, inr, ℕ, List, [], refl, sym, ◌∙◌, append-nil}
use Rattle.std.proofs.Common.{Option, Some, None, IfSome, Result, Ok, Err, IsErrAnd}
use Rattle.sec1_der.specs.declared.error.Error.{Error as DerError}
use Rattle.sec1_der.specs.declared.error.ErrorKind.{ErrorKind}
use Rattle.sec1_der.specs.declared.error.ErrorKind.TheVariants.{Truncated, Tag, Length, TrailingData, Io}
use Rattle.sec1_der.specs.declared.error.ErrorKind.TheVariants.{Memory as DerMemory}
use Rattle.sec1_der.specs.Elements.{IsElement, element}
use Rattle.sec1_der.specs.Faults.{no_fault, end_fault, document_fault}
use Rattle.sec1_der.specs.Streams.{RefusesElement, TakenBeforeRefusal}
use Rattle.sec1_der.specs.Streams.{Takes}
use Rattle.sec1_der.proofs.FaultLaws.{any_at}
use Rattle.sec1.specs.Errors.{IsAsn1Where, error_of}
use Rattle.sec1.specs.Keys.{Exists}
use Rattle.sec1.specs.declared.error.Error.{Error}
use Rattle.sec1.specs.declared.error.Error.TheVariants.{Memory}

-- The result is Memory, Io, or the refusal with this fault.
abbrev IsToldBy : {T : Type 0} → Option (Option ErrorKind) → Result T Error → Type 0
IsToldBy fault result = IsErrAnd result
    (λ error. (error ≡ Memory) ⊎ IsAsn1Where (λ kind. (kind ≡ Io) ⊎ (fault ≡ Some (Some kind))) error)

-- The bytes are one element, or the result is their refusal.
abbrev IsTold : {T : Type 0} → Result T Error → List ℕ → Type 0
IsTold result bytes = (document_fault bytes ≡ None) ⊎ IsToldBy (document_fault bytes) result

-- An element isn't refused.
element_whole : (bytes : List ℕ) → IsElement bytes → document_fault bytes ≡ None
element_whole bytes is =
    any_at (λ _. no_fault) end_fault is.tag is.content bytes [] is.is_header
    (is.encoded ∙ sym (append-nil (element is.tag is.content)))

-- The kind of a refusal is the fault of the bytes that were taken, unless a read or an allocation failed.
taken_kind : (kind : ErrorKind) (bytes : List ℕ) → TakenBeforeRefusal kind bytes
    → ((kind ≡ Io) ⊎ (kind ≡ DerMemory)) ⊎ (document_fault bytes ≡ Some (Some kind))
taken_kind Truncated bytes is = inr is
taken_kind Tag bytes is = inr is.4
taken_kind Length bytes is = inr is.4
taken_kind TrailingData bytes is = inr is.4
taken_kind Io bytes is = inl (inl refl)
taken_kind DerMemory bytes is = inl (inr refl)
taken_kind kind bytes is = absurd is

-- The error for a cause tells its kind.
told_error : (kind : ErrorKind) (cause : DerError) (fault : Option (Option ErrorKind)) → cause.kind ≡ kind
    → ((kind ≡ Io) ⊎ (kind ≡ DerMemory)) ⊎ (fault ≡ Some (Some kind))
    → (error_of cause ≡ Memory) ⊎ IsAsn1Where (λ of. (of ≡ Io) ⊎ (fault ≡ Some (Some of))) (error_of cause)
told_error DerMemory cause fault same is = inl (rw same refl)
told_error kind cause fault same is =
    inr (rw same (⊎_elim (λ failed. ⊎_elim inl (λ memory. absurd (cc memory)) failed) inr is))

told_by : {T : Type 0} (cause : DerError) (fault : Option (Option ErrorKind)) (result : Result T Error)
    → IsErrAnd result (λ e. e ≡ error_of cause)
    → ((cause.kind ≡ Io) ⊎ (cause.kind ≡ DerMemory)) ⊎ (fault ≡ Some (Some cause.kind)) → IsToldBy fault result
told_by cause fault (Ok x) same is = absurd same
told_by cause fault (Err e) same is = rw same (told_error cause.kind cause fault refl is)

-- What was left is told, if it is known.
left_told : {T : Type 0} (cause : DerError) (left : Option (List ℕ)) (result : Result T Error)
    → IsErrAnd result (λ e. e ≡ error_of cause)
    → ((cause.kind ≡ Io) ⊎ (cause.kind ≡ DerMemory))
    ⊎ IfSome left (λ all. document_fault all ≡ Some (Some cause.kind))
    → IfSome left (IsTold result)
left_told cause None result same is = tt
left_told cause (Some all) result same is = inr (told_by cause (document_fault all) result same is)

-- A stream is refused as no element by the kind that its bytes have.
pub stream_refused : {T : Type 0} {S : Type 0} (left taken : S → Option (List ℕ)) (Ended : Type 0) (old new : S)
    (cause : DerError) (result : Result T Error)
    → IsErrAnd result (λ e. e ≡ error_of cause)
    → RefusesElement cause.kind (Takes left taken old new) Ended
    → ((cause.kind ≡ Io) ⊎ (cause.kind ≡ DerMemory))
    ⊎ IfSome (left old) (λ all. document_fault all ≡ Some (Some cause.kind))
    → IfSome (left old) (IsTold result) × Exists (Takes left taken old new) (IsTold result)
stream_refused left taken Ended old new cause result same refused is = (
  left_told cause (left old) result same is,
  record {
    bytes = refused.bytes;
    such = refused.taken;
    holds =
        inr (told_by cause (document_fault refused.bytes) result same
        (taken_kind cause.kind refused.bytes refused.by_kind));
  },
)

-- Bytes of which none are refused are told by any result.
left_read : {T : Type 0} (left : Option (List ℕ)) (result : Result T Error)
    → IfSome left (λ all. document_fault all ≡ None) → IfSome left (IsTold result)
left_read None result is = tt
left_read (Some all) result is = inl is

-- A stream that is one element is told by any result.
pub stream_read : {T : Type 0} {S : Type 0} (left taken : S → Option (List ℕ)) (old new : S) (bytes : List ℕ)
    (result : Result T Error) → IsElement bytes → Takes left taken old new bytes
    → IfSome (left old) (λ all. document_fault all ≡ None)
    → IfSome (left old) (IsTold result) × Exists (Takes left taken old new) (IsTold result)
stream_read left taken old new bytes result is takes none = (
  left_read (left old) result none,
  record { bytes = bytes; such = takes; holds = inl (element_whole bytes is) },
)
