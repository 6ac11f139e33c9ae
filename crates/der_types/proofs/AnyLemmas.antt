-- Elements of any tag.
use Rattle.std.proofs.Common.{◌≡◌, ◌++◌, ◌∷◌, [], ℕ, nat_le, List, length, Bool, true, false, Some, refl, sym, ◌∙◌, ap}
use Rattle.std.proofs.Common.{le-leb, leb-true}
use Rattle.std.proofs.Math.Seq.{drop-append_seam}
use Rattle.std.proofs.lemmas.Bool.{and_parts}
use Rattle.std.proofs.lemmas.Slice.Eq.{bytes_eq-Decides}
use Rattle.sec1_der.specs.Elements.{max_length, length_octets, element, is_tag, IsHeader, IsElement}
use Rattle.sec1_der.specs.Parts.{AreDistinct, is_among}
use Rattle.sec1_der.specs.PartLaws.{chosen}
use Rattle.sec1_der.specs.Readers.{Reader, HasRead}
use Rattle.sec1_der.specs.Faults.{Fault, no_fault, any_fault, IsFaultOf, content_at}
use Rattle.sec1_der.specs.Values.{tag_of, value_of}
use Rattle.sec1_der.specs.declared.any.AnyRef.{AnyRef}
use Rattle.sec1_der.specs.declared.error.ErrorKind.{ErrorKind}
use Rattle.sec1_der.proofs.LengthLaws.{number_at_octets}
use Rattle.sec1_der.proofs.FaultLaws.{any_at}
use Rattle.sec1_der.proofs.KindLaws.{parts_refused}
use Rattle.sec1_der.proofs.ElementLaws.{element_apart}
use Rattle.der_types.specs.AnyElements.{among_all, all_tags, any_tags, first_byte, content_in, is_element, any_of}
use Rattle.der_types.specs.AnyElements.{any_element_fault}

-- bytes that pass the test are those of an element
pub element_tested : (bytes : List ℕ) → is_element bytes ≡ true → IsElement bytes
unfolding is_element
element_tested bytes e =
    let parts = and_parts (is_tag (first_byte bytes)) _ e in
    let more = and_parts (nat_le (length (content_in bytes)) max_length) _ parts.1 in
    record {
      tag = first_byte bytes;
      content = content_in bytes;
      is_header = record { tag_byte = parts.0; bounded = leb-true _ _ more.0 };
      encoded = sym ((bytes_eq-Decides (element (first_byte bytes) (content_in bytes)) bytes).0 more.1);
    }

-- the content of an element is found
content_found : (tag : ℕ) (content : List ℕ) → content_in (element tag content) ≡ content
unfolding content_in
content_found tag content =
    rw (number_at_octets (length content) content, drop-append_seam (length_octets (length content)) content) refl

-- an element passes the test
passes_at : (tag : ℕ) (content : List ℕ) → IsHeader tag (length content) → is_element (element tag content) ≡ true
unfolding is_element
passes_at tag content is =
    rw (content_found tag content, is.tag_byte, le-leb (length content) max_length is.bounded)
    ((bytes_eq-Decides (element tag content) (element tag content)).1 refl)

pub element_passes : (bytes : List ℕ) → IsElement bytes → is_element bytes ≡ true
element_passes bytes is = rw is.encoded (passes_at is.tag is.content is.is_header)

-- what has bytes is an element
pub any_some : (bytes whole : List ℕ) → any_of bytes ≡ Some whole → (bytes ≡ whole) × IsElement whole
any_some bytes whole e =
    let (is, same) = chosen (is_element bytes) bytes whole e in
    (same, rw same at (element_tested bytes is))

-- an element has bytes
pub any_there : (bytes : List ℕ) → IsElement bytes → any_of bytes ≡ Some bytes
any_there bytes is = rw (element_passes bytes is) refl

-- elements of any tag are distinct
pub any_distinct : AreDistinct any_tags any_of
any_distinct a b x y r s distinct e f before rest same =
    let (is, p) = any_some a x e in
    let (at, q) = any_some b y f in
    let all = element_apart p.tag q.tag p.content q.content r s (rw (p.encoded, q.encoded) at same) in
    (is ∙ (p.encoded ∙ (rw (all.0, all.1) (sym (at ∙ q.encoded)))), all.2)

-- the fault of an element that was read is that of what follows it
pub any_passes : (bytes : List ℕ) (old new : Reader) → IsElement bytes → HasRead bytes old new → (rest : Fault)
    → any_element_fault rest old.unread ≡ rest new.unread
unfolding any_element_fault
any_passes bytes old new is read rest =
    any_at (λ _. no_fault) rest is.tag is.content old.unread new.unread is.is_header
    (ap (λ (r : Reader). r.unread) read.was_unfailed ∙ ap (λ xs. xs ++ new.unread) is.encoded)

-- what is refused stays so where more is tested after it
pub any_refused : (rest : Fault) (bytes : List ℕ) (k : ErrorKind)
    → IsFaultOf (any_fault (λ _. no_fault) no_fault bytes) k
    → IsFaultOf (any_element_fault rest bytes) k
unfolding any_element_fault
any_refused rest [] k e = e
any_refused rest (byte ∷ bytes) k e = parts_refused (is_tag byte) no_fault rest (content_at bytes) k e

-- the bytes of an element that was read
pub element_from : (any : AnyRef) (bytes : List ℕ) → IsHeader (tag_of any) (length (value_of any))
    → bytes ≡ element (tag_of any) (value_of any) → IsElement bytes
element_from any bytes header encoded =
    record { tag = tag_of any; content = value_of any; is_header = header; encoded = encoded }

-- a byte that begins an element
pub begins_any : (byte : ℕ) (b : Bool) → (b ≡ true → is_tag byte ≡ true) → (is_tag byte ≡ true → b ≡ true)
    → b ≡ is_among byte all_tags
begins_any byte b f g = by b (is_tag byte) refl f g ∙ sym (among_all byte)
  where
    by : (b c : Bool) → is_tag byte ≡ c → (b ≡ true → is_tag byte ≡ true) → (is_tag byte ≡ true → b ≡ true) → b ≡ c
    by true true e f g = refl
    by false true e f g = g e
    by true false e f g = absurd (cc (e, f refl))
    by false false e f g = refl
