-- What the bytes of an element, and bytes that begin with none, are refused by.
use Rattle.std.proofs.Common.{◌≡◌, ℕ, ◌+◌, ◌<◌, ◌≤◌, true, false, ◌&&◌, nat_le, List, [], ◌∷◌, ◌++◌, length, take}
use Rattle.std.proofs.Common.{slice_get, Option, Some, None, IsSomeAnd, Err, ⊎_elim, refl, ap, sym, ◌∙◌, arith}
use Rattle.std.proofs.Common.{leb-true, eq-eqb, append-nil, append_assoc, length-append, take-append-drop, bytes_eq}
use Rattle.std.proofs.lemmas.Bool.{lt-leb, and_parts, cases_Bool, cases_lt}
use Rattle.std.proofs.lemmas.List.{nil_from_length}
use Rattle.std.proofs.lemmas.Slice.Eq.{bytes_eq-Decides}
use Rattle.sec1_der.specs.Elements.{max_length, length_octets, header, element, element_of, is_tag, IsHeader, IsElement}
use Rattle.sec1_der.specs.Elements.{IsProperPrefix}
use Rattle.sec1_der.specs.Errors.{length_fault, header_fault}
use Rattle.sec1_der.specs.Readers.{Reader, reader_over, HasReadElement}
use Rattle.sec1_der.specs.Faults.{Fault, no_fault, end_fault, number_at, length_at, parts_fault, content_at}
use Rattle.sec1_der.specs.Faults.{element_fault, optional_fault, any_fault, document_fault}
use Rattle.sec1_der.specs.declared.error.ErrorKind.TheVariants.{Truncated, TrailingData}
use Rattle.sec1_der.proofs.HeaderLemmas.{LacksHeader, fronts, header_front, longer, some_length}
use Rattle.sec1_der.proofs.ElementLaws.{header_apart, element_of-within}
use Rattle.sec1_der.proofs.FaultLaws.{length_at_octets, any_at, alone, read_element, present}

-- ---- lengths

-- bytes that begin with no length are refused by the fault of their length
pub length_at_lacks : (bytes : List ℕ)
    → ((n : ℕ) (rest : List ℕ) → n ≤ max_length → bytes ≡ length_octets n ++ rest → ⊥)
    → length_at bytes ≡ Err (length_fault bytes)
length_at_lacks bytes lacks =
    let octets = length_octets (number_at bytes) in
    let front = take (length octets) bytes in
    ⊎_elim
    (λ e. let (fits, same) = and_parts _ _ e in
    let encoded = rw ((bytes_eq-Decides front octets).0 same) at (sym (take-append-drop (length octets) bytes)) in
    absurd (lacks _ _ (leb-true (number_at bytes) max_length fits) encoded))
    (λ e. rw e refl)
    (cases_Bool (nat_le (number_at bytes) max_length && bytes_eq front octets))

-- ---- elements

-- a header with less after it than it announces is truncated
pub any_short : (f : ℕ → Fault) (g : Fault) (tag n : ℕ) (bytes inside : List ℕ) → IsHeader tag n
    → bytes ≡ header tag n ++ inside → length inside < n
    → any_fault f g bytes ≡ Some (Some Truncated)
any_short f g tag n bytes inside h e few =
    rw (e, h.tag_byte, length_at_octets n inside h.bounded, lt-leb n (length inside) few) refl

-- bytes that begin with no header are refused by the fault of their header
pub any_without_header : (f : ℕ → Fault) (g : Fault) (bytes : List ℕ) → LacksHeader bytes
    → any_fault f g bytes ≡ Some (Some (header_fault bytes))
any_without_header f g [] lacks = refl
any_without_header f g (byte ∷ bytes) lacks = ⊎_elim
    (λ e. let is : is_tag byte ≡ true = e in
    let none = length_at_lacks bytes
    (λ n rest fits same. lacks byte n rest (record { tag_byte = is; bounded = fits }) (ap (λ xs. byte ∷ xs) same)) in
    rw (e, none)
    refl)
    (λ e. rw e refl)
    (cases_Bool (is_tag byte))

-- a truncated element
pub any_cut : (f : ℕ → Fault) (g : Fault) (tag : ℕ) (content input : List ℕ)
    → IsHeader tag (length content)
    → IsProperPrefix input (element tag content) → any_fault f g input ≡ Some (Some Truncated)
any_cut f g tag content input h cut = ⊎_elim
    (λ l. any_without_header f g input (lacks l) ∙ ⊎_elim
    (λ c. absurd (omega (arith, ap length c.front, length-append (header tag (length content)) c.after)))
    (λ k. ap (λ kind. Some (Some kind)) k)
    (header_front tag (length content) input cut.more content h (sym cut.split)))
    (λ l. let c = longer input (header tag (length content)) cut.more content (sym cut.split) l in
    any_short f g tag (length content) input c.after h c.front
    (omega (arith, ap length c.back, length-append c.after cut.more, some_length cut.more cut.some)))
    (cases_lt (length input) (length (header tag (length content))))
  where
    lacks : length input < length (header tag (length content)) → LacksHeader input
    lacks l tag' n rest h' e =
        let joined = sym (append_assoc (header tag' n) rest cut.more)
        ∙ (ap (λ xs. xs ++ cut.more) (sym e) ∙ sym cut.split) in
        let same = header_apart tag' n tag (length content) (rest ++ cut.more) content joined in
        omega (arith, ap length e, length-append (header tag' n) rest, ap (λ m. length (header tag' m)) same.1)

-- a truncated element with this tag, whatever its tag
pub element_cut : (f g : Fault) (tag : ℕ) (content input : List ℕ) → length content ≤ max_length
    → IsProperPrefix input (element tag content) → element_fault tag f g input ≡ Some (Some Truncated)
element_cut f g tag content [] fits cut = refl
element_cut f g tag content (byte ∷ bytes) fits cut =
    let same : tag ≡ byte = cc cut.split in
    let rest : length_octets (length content) ++ content ≡ bytes ++ cut.more = cc cut.split in
    -- that of a SEQUENCE is a tag
    let inside : parts_fault f g (content_at bytes) ≡ Some (Some Truncated) =
    any_cut (λ _. f) g 0x30 content (0x30 ∷ bytes) (record { tag_byte = refl; bounded = fits })
    (record { more = cut.more; some = cut.some; split = ap (λ xs. 0x30 ∷ xs) rest }) in
    rw (← same, eq-eqb tag tag refl, inside) refl

-- where the tag is next, an element with this tag is refused as one of any tag is
pub element_next : (f g : Fault) (tag : ℕ) (bytes : List ℕ) → is_tag tag ≡ true → slice_get bytes 0 ≡ Some tag
    → element_fault tag f g bytes ≡ any_fault (λ _. f) g bytes
element_next f g tag [] is next = absurd (cc next)
element_next f g tag (byte ∷ bytes) is next =
    let same : byte ≡ tag = cc next in
    rw (same, eq-eqb tag tag refl, is) refl

-- ---- one element after another

-- an element that was read to the end is all that there was
pub read_whole : (f : Fault) (tag : ℕ) (content : Option (List ℕ)) (old new : Reader)
    → IsSomeAnd content (λ inside. (f inside ≡ None) × HasReadElement tag inside old new) → new ≡ reader_over []
    → element_of tag content ≡ Some old.unread
read_whole f tag None old new is end = absurd is
read_whole f tag (Some inside) old new (meets, is) end =
    let none : new.unread ≡ [] = ap (λ (r : Reader). r.unread) end in
    let all : old.unread ≡ element tag inside =
    ap (λ (r : Reader). r.unread) is.read.was_unfailed ∙ rw none (append-nil (element tag inside)) in
    element_of-within tag (Some inside) inside refl is.bounded ∙ ap Some (sym all)

-- where the content of an element was opened, the fault of the element is that of the content
pub opened_element : (f : Fault) (tag opened : ℕ) (old new content : Reader)
    → (content ≡ reader_over content.unread) × HasReadElement opened content.unread old new → opened ≡ tag
    → (content.failed ≡ false) × (element_fault tag f no_fault old.unread ≡ f content.unread)
opened_element f tag opened old new content is same = (
  ap (λ (r : Reader). r.failed) is.0,
  read_element f no_fault tag content.unread old new (rw same at is.1) ∙ alone _,
)

-- bytes after the end are refused as trailing data
pub trailing_fault : (bytes : List ℕ) → (bytes ≡ [] → ⊥) → end_fault bytes ≡ Some (Some TrailingData)
trailing_fault [] some = absurd (some refl)
trailing_fault (byte ∷ bytes) some = refl

-- an element isn't refused
pub document_element : (bytes : List ℕ) → IsElement bytes → document_fault bytes ≡ None
document_element bytes is =
    any_at (λ _. no_fault) end_fault is.tag is.content bytes [] is.is_header
    (is.encoded ∙ sym (append-nil (element is.tag is.content)))

-- an element and nothing more
pub whole_element : (tag : ℕ) (content bytes rest : List ℕ) → IsHeader tag (length content)
    → bytes ≡ element tag content ++ rest → length rest ≡ 0 → IsElement bytes
whole_element tag content bytes rest h e none = record {
  tag = tag;
  content = content;
  is_header = h;
  encoded = e ∙ rw (nil_from_length rest none) (append-nil (element tag content));
}

-- bytes that begin with an element, and are more, are refused as trailing data
pub longer_fault : (bytes whole : List ℕ) → IsElement whole → IsProperPrefix whole bytes
    → document_fault bytes ≡ Some (Some TrailingData)
longer_fault bytes whole is more =
    any_at (λ _. no_fault) end_fault is.tag is.content bytes more.more is.is_header
    (more.split ∙ ap (λ xs. xs ++ more.more) is.encoded)
    ∙ trailing_fault more.more more.some

-- an element and more bytes are refused as trailing data
pub document_long : (tag : ℕ) (content bytes rest : List ℕ) → IsHeader tag (length content)
    → bytes ≡ element tag content ++ rest → 0 < length rest
    → document_fault bytes ≡ Some (Some TrailingData)
document_long tag content bytes rest h e more =
    any_at (λ _. no_fault) end_fault tag content bytes rest h e
    ∙ trailing_fault rest (λ none. absurd (omega (arith, ap length none)))

-- ---- explicit fields

-- where the content of a field was opened, the fault of the field is that of the one element in it
pub opened_field : (number tag : ℕ) (f : Fault) (opened : ℕ) (old new content : Reader)
    → (content ≡ reader_over content.unread) × HasReadElement opened content.unread old new → opened ≡ 0xA0 + number
    → (content.failed ≡ false)
    × (optional_fault (0xA0 + number) (element_fault tag f end_fault) no_fault old.unread
    ≡ element_fault tag f end_fault content.unread)
opened_field number tag f opened old new content is same = (
  ap (λ (r : Reader). r.failed) is.0,
  let inside = element_fault tag f end_fault in
      let read : HasReadElement (0xA0 + number) content.unread old new = rw same at is.1 in
      present inside no_fault (0xA0 + number) content.unread old new read
      ∙ (read_element inside no_fault (0xA0 + number) content.unread old new read ∙ alone _),
)

-- by these, a document is refused by the kind that its bytes have, and only then
pub ruleset document_faults = (fronts, document_element, document_long)

-- the faults of truncated elements
pub ruleset cut_elements = (element_cut, any_cut)
