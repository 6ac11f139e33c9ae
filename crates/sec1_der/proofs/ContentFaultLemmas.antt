-- What the contents of identifiers and of bit strings are refused by.
use Rattle.std.proofs.Common.{◌≡◌, ℕ, ◌%◌, ◌≤◌, true, ◌&&◌, List, [], ◌∷◌, length, slice_index, append-nil, Some, None}
use Rattle.std.proofs.Common.{refl, sym, ap, ◌∙◌, arith, ⊎_elim, bytes_eq}
use Rattle.std.proofs.lemmas.Bool.{and_parts, cases_Bool}
use Rattle.std.proofs.lemmas.Slice.Eq.{bytes_eq-Decides}
use Rattle.sec1_der.specs.Identifiers.{arcs_of, IsIdentifier, content_of}
use Rattle.sec1_der.specs.Elements.{max_length, element, element_of}
use Rattle.sec1_der.proofs.ElementLaws.{element_of-some}
use Rattle.sec1_der.specs.Faults.{no_fault, end_fault, element_fault}
use Rattle.sec1_der.specs.Contents.{are_bits, bit_string_fault, whole_bits_fault, whole_bits_field_fault}
use Rattle.sec1_der.specs.Contents.{identifier_fault}
use Rattle.sec1_der.proofs.IdentifierLaws.{is_identifier, is_identifier-true, is_identifier-valid}
use Rattle.sec1_der.specs.declared.error.ErrorKind.TheVariants.{Value}
use Rattle.sec1_der.proofs.FaultLaws.{alone, element_at}
use Rattle.sec1_der.proofs.IdentifierLemmas.{read_arcs}

-- the content of an identifier isn't refused
pub identifier_taken : (arcs content : List ℕ) → IsIdentifier arcs content → identifier_fault content ≡ None
identifier_taken arcs content h =
    let encoded = (bytes_eq-Decides (content_of arcs) content).1 (sym h.encoded) in
    rw (read_arcs arcs content h, is_identifier-valid arcs content h, encoded) refl

-- a content of no identifier is refused as Value
pub identifier_refused : (content : List ℕ) → ((arcs : List ℕ) → IsIdentifier arcs content → ⊥)
    → identifier_fault content ≡ Some (Some Value)
identifier_refused content none =
    let arcs = arcs_of content in
    ⊎_elim
    (λ e. let (is, same) =
    and_parts _ _ e in
    absurd (none arcs (rw ((bytes_eq-Decides (content_of arcs) content).0 same) at
    (is_identifier-true arcs is))))
    (λ e. rw e refl)
    (cases_Bool (is_identifier arcs && bytes_eq (content_of arcs) content))

-- by these, a content is refused exactly if it is that of no identifier
pub ruleset identifier_faults = (identifier_taken, identifier_refused)

-- any bytes are a bit string without unused bits
pub whole_is : (bytes : List ℕ) → are_bits 0 bytes ≡ true
whole_is [] = refl
whole_is (byte ∷ bytes) =
    let zeros : slice_index (byte ∷ bytes) (length bytes) % 1 ≡ 0 = omega arith in rw zeros refl

-- the content of a field around a bit string without unused bits
pub whole_inside : (inside bytes : List ℕ) → element_of 0x03 (Some (0 ∷ inside)) ≡ Some bytes
    → (length (0 ∷ inside) ≤ max_length) × (bytes ≡ element 0x03 (0 ∷ inside))
whole_inside inside bytes e =
    let is = element_of-some 0x03 (Some (0 ∷ inside)) bytes e in
    let same : 0 ∷ inside ≡ is.inside = cc (is.same) in
    (omega (arith, ap length same, is.at.bounded), is.at.encoded ∙ ap (λ content. element 0x03 content) (sym same))

-- the element of a bit string without unused bits isn't refused
pub whole_taken : (inside bytes : List ℕ) → element_of 0x03 (Some (0 ∷ inside)) ≡ Some bytes
    → element_fault 0x03 bit_string_fault end_fault bytes ≡ None
whole_taken inside bytes e =
    let (fits, encoded) = whole_inside inside bytes e in
    element_at bit_string_fault end_fault 0x03 (0 ∷ inside) bytes [] fits
    (encoded ∙ sym (append-nil (element 0x03 (0 ∷ inside))))
    ∙ rw (whole_is inside) refl

-- where the content of a field is a bit string, its fault is that of its unused bits
pub bits_inside : (content bytes : List ℕ) → element_of 0x03 (Some content) ≡ Some bytes
    → element_fault 0x03 bit_string_fault end_fault bytes ≡ None
    → whole_bits_field_fault bytes ≡ whole_bits_fault content
bits_inside content bytes is none =
    let there = element_of-some 0x03 (Some content) bytes is in
    let same : content ≡ there.inside = cc (there.same) in
    let second = element_at whole_bits_fault no_fault 0x03 there.inside bytes [] there.at.bounded
    (there.at.encoded ∙ sym (append-nil (element 0x03 there.inside))) in
    rw (none, same) (second ∙ alone (whole_bits_fault there.inside))
