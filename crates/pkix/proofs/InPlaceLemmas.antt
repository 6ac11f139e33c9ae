-- Elements whose content is read into an existing place.
use Rattle.std.proofs.Common.{◌≡◌, ◌==◌, ◌∷◌, [], ℕ, List, Bool, true, false, if◌then◌else◌, Result, Ok, Err}
use Rattle.std.proofs.Common.{Option, Some, None, IsSomeAnd, ap, ◌∙◌, ◌++◌, append-nil, refl, sym}
use Rattle.sec1_der.proofs.ElementFaultLemmas.{read_whole}
use Rattle.sec1_der.proofs.ElementLaws.{element_of-within}
use Rattle.sec1_der.proofs.FaultLaws.{PassesOver, alone, read_element, reads_on}
use Rattle.sec1_der.proofs.KindLaws.{refused_more}
use Rattle.sec1_der.specs.Elements.{element, element_of}
use Rattle.sec1_der.specs.Readers.{HasRead, HasReadElement, Reader, reader_over}
use Rattle.sec1_der.specs.Faults.{Fault, IsFaultOf, element_fault, no_fault, parts_fault, content_at}
use Rattle.sec1_der.specs.declared.error.ErrorKind.{ErrorKind}
use Rattle.sec1_der.specs.declared.error.ErrorKind.TheVariants.{Tag}

-- what begins with no element of this tag is refused by the same kind, whatever its content would have to be
pub refused_element : (f g : Fault) (tag : ℕ) (bytes : List ℕ) (kind : ErrorKind)
    → IsFaultOf (element_fault tag no_fault no_fault bytes) kind → IsFaultOf (element_fault tag f g bytes) kind
refused_element f g tag [] kind e = e
refused_element f g tag (byte ∷ bytes) kind e = by (byte == tag) (content_at bytes) e
  where
    by : (b : Bool) (found : Result (List ℕ × List ℕ) ErrorKind)
        → IsFaultOf (if b then parts_fault no_fault no_fault found else Some (Some Tag)) kind
        → IsFaultOf (if b then parts_fault f g found else Some (Some Tag)) kind
    by false found e = e
    by true (Err said) e = e
    by true (Ok x) e = absurd e

-- where the content of an element was opened and isn't refused, the fault is that of what follows
pub opened_passes : (f : Fault) (tag : ℕ) (inside old new : Reader)
    → (inside ≡ reader_over inside.unread) × HasReadElement tag inside.unread old new
    → (inside.failed ≡ false → f inside.unread ≡ None) → PassesOver (element_fault tag f) old new
opened_passes f tag inside old new (is, read) meets =
    let whole : inside.failed ≡ false = ap (λ (r : Reader). r.failed) is in
    reads_on f tag (Some inside.unread) old new (meets whole, read)

-- the element whose content was opened, and read as that of a value, was read
pub opened_read : (f : Fault) (tag : ℕ) (content : Option (List ℕ)) (inside old new : Reader)
    → (inside ≡ reader_over inside.unread) × HasReadElement tag inside.unread old new
    → content ≡ Some inside.unread → (inside.failed ≡ false → f inside.unread ≡ None)
    → IsSomeAnd (element_of tag content) (λ whole. HasRead whole old new)
    × ((rest : Fault) → element_fault tag f rest old.unread ≡ rest new.unread)
opened_read f tag content inside old new found same meets = (
  rw (element_of-within tag content inside.unread same found.1.bounded) found.1.read,
  (opened_passes f tag inside old new found meets).next,
)

-- the element whose content was opened and read, with nothing after it, is all that there was
pub opened_whole : (tag : ℕ) (content : Option (List ℕ)) (inside old new : Reader)
    → (inside ≡ reader_over inside.unread) × HasReadElement tag inside.unread old new
    → content ≡ Some inside.unread → new ≡ reader_over []
    → element_of tag content ≡ Some old.unread
opened_whole tag content inside old new (is, read) same end =
    let some : IsSomeAnd content (λ bytes. (no_fault bytes ≡ None) × HasReadElement tag bytes old new) =
    rw same (refl, read) in
    read_whole no_fault tag content old new some end

-- a reader over an element has nothing after it
pub over_element : (tag : ℕ) (inside input : List ℕ) (r : Reader) → r ≡ reader_over input
    → input ≡ element tag inside
    → r ≡ reader_over (element tag inside ++ [])
over_element tag inside input r is e = is ∙ ap reader_over (e ∙ sym (append-nil (element tag inside)))

-- the element whose content was opened is refused by the kind of its content
pub opened_refused : (f : Fault) (tag : ℕ) (inside old new : Reader) (kind : ErrorKind)
    → HasReadElement tag inside.unread old new → IsFaultOf (f inside.unread) kind
    → (rest : Fault) → IsFaultOf (element_fault tag f rest old.unread) kind
opened_refused f tag inside old new kind read refused rest =
    refused_more f rest tag old.unread kind
    (rw (read_element f no_fault tag inside.unread old new read ∙ alone (f inside.unread)) refused)
