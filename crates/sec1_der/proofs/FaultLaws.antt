-- What the bytes of an element are refused by, and a reader that continues after one. Further crates
-- cite these laws.
use Rattle.std.proofs.Common.{◌≡◌, ◌++◌, ℕ, List, false, refl, sym, ◌∙◌, ap, Option, Some, None, IsSomeAnd, Ok, eq-eqb}
use Rattle.std.proofs.Common.{◌≤◌, length, take, drop, arith, le-leb, length-append, append_assoc, length-drop, ◌+◌}
use Rattle.std.proofs.Common.{◌-◌, inl, inr}
use Rattle.std.specs.Option.{option_or}
use Rattle.sec1_der.specs.Readers.{Reader, HasRead, HasReadElement, IsSuffix, reader_over}
use Rattle.sec1_der.specs.Faults.{Fault, length_at, split_content, parts_fault, element_fault, optional_fault}
use Rattle.sec1_der.specs.Faults.{any_fault}
use Rattle.sec1_der.specs.declared.error.ErrorKind.{ErrorKind}
use Rattle.std.proofs.lemmas.Grind.{common_steps}
use Rattle.std.proofs.Math.Seq.{take-append_seam, drop-append_seam, drop-append-add}
use Rattle.std.proofs.lemmas.Slice.Eq.{bytes_eq-Decides}
use Rattle.sec1_der.specs.Elements.{max_length, length_octets, header, element, IsHeader}
use Rattle.sec1_der.proofs.LengthLaws.{number_at_octets}

-- the length that the bytes begin with is found, and what follows it
pub length_at_octets : (n : ℕ) (rest : List ℕ) → n ≤ max_length
    → length_at (length_octets n ++ rest) ≡ Ok (n, rest)
length_at_octets n rest fits =
    let same = (bytes_eq-Decides (take (length (length_octets n)) (length_octets n ++ rest))
    (length_octets n)).1
    (take-append_seam (length_octets n) rest) in
    rw (
      number_at_octets n rest,
      le-leb n max_length fits,
      same,
      drop-append_seam (length_octets n) rest,
    ) refl

-- the content after a length is found, and what follows it
pub split_octets : (content rest : List ℕ) → length content ≤ max_length
    → split_content (length_at ((length_octets (length content) ++ content) ++ rest)) ≡ Ok (content, rest)
split_octets content rest fits =
    let n = length content in
    let room = le-leb n (length (content ++ rest)) (omega (arith, length-append content rest)) in
    rw (
      append_assoc (length_octets n) content rest,
      length_at_octets n (content ++ rest) fits,
      room,
    )
    (rw (take-append_seam content rest, drop-append_seam content rest) refl)

-- the fault after the first byte of an element is that of its content, or else of the bytes after
-- it
pub parts_at : (f g : Fault) (content rest : List ℕ) → length content ≤ max_length
    → parts_fault f g (split_content (length_at ((length_octets (length content) ++ content) ++ rest)))
    ≡ option_or (f content) (g rest)
parts_at f g content rest fits = rw (split_octets content rest fits) refl

-- where a header has room for its content, the fault is that of the content, or else of the bytes
-- after it
pub any_room : (f : ℕ → Fault) (g : Fault) (tag n : ℕ) (bytes inside : List ℕ) → IsHeader tag n
    → bytes ≡ header tag n ++ inside → n ≤ length inside
    → any_fault f g bytes ≡ option_or (f tag (take n inside)) (g (drop n inside))
any_room f g tag n bytes inside h e fits =
    rw (
      e,
      h.tag_byte,
      length_at_octets n inside h.bounded,
      le-leb n (length inside) fits,
    ) refl

-- the fault of an element of any tag is that of its content, or else of the bytes after it
pub any_at : (f : ℕ → Fault) (g : Fault) (tag : ℕ) (content bytes rest : List ℕ)
    → IsHeader tag (length content)
    → bytes ≡ element tag content ++ rest
    → any_fault f g bytes ≡ option_or (f tag content) (g rest)
any_at f g tag content bytes rest h e =
    rw (e, h.tag_byte) (parts_at (f tag) g content rest h.bounded)

-- the same of an element with this tag
pub element_at : (f g : Fault) (tag : ℕ) (content bytes rest : List ℕ) → length content ≤ max_length
    → bytes ≡ element tag content ++ rest
    → element_fault tag f g bytes ≡ option_or (f content) (g rest)
element_at f g tag content bytes rest fits e =
    rw (e, eq-eqb tag tag refl) (parts_at f g content rest fits)

-- a fault with none after it is the fault
pub alone : (o : Option (Option ErrorKind)) → option_or o None ≡ o
alone None = refl
alone (Some k) = refl

-- the fault of an element that a reader read is that of its content, or else of the bytes after it
pub read_element : (f g : Fault) (tag : ℕ) (content : List ℕ) (old new : Reader)
    → HasReadElement tag content old new
    → element_fault tag f g old.unread ≡ option_or (f content) (g new.unread)
read_element f g tag content old new h =
    element_at f g tag content old.unread new.unread h.bounded
    (ap (λ (r : Reader). r.unread) h.read.was_unfailed)

-- where an optional element was read, its fault is that of the element
pub present : (f rest : Fault) (tag : ℕ) (content : List ℕ) (old new : Reader) → HasReadElement tag content old new
    → optional_fault tag f rest old.unread ≡ element_fault tag f rest old.unread
present f rest tag content old new h =
    rw (ap (λ (r : Reader). r.unread) h.read.was_unfailed, eq-eqb tag tag refl) refl

-- the end of a list is the end of that list after another
joined_suffix : (front back rest : List ℕ) → IsSuffix rest back → IsSuffix rest (front ++ back)
joined_suffix front back rest (inl none) = inl none
joined_suffix front back rest (inr end) = inr (
    let n = length back - length rest in
    let count : length (front ++ back) - length rest ≡ length front + n =
    omega (arith, length-append front back, length-drop n back, ap length end) in
    end ∙ (sym (drop-append-add front back n) ∙ ap (λ k. drop k (front ++ back)) (sym count)))

-- the end of what follows bytes that were read is the end of what there was
pub suffix_after : (bytes : List ℕ) (old new : Reader) (rest : List ℕ) → HasRead bytes old new
    → IsSuffix rest new.unread → IsSuffix rest old.unread
suffix_after bytes old new rest h end =
    rw (ap (λ (r : Reader). r.unread) h.was_unfailed) (joined_suffix bytes new.unread rest end)

-- the same of bytes that are there
pub left_after : (bytes : Option (List ℕ)) (old new : Reader) (rest : List ℕ)
    → IsSomeAnd bytes (λ whole. HasRead whole old new) → IsSuffix rest new.unread → IsSuffix rest old.unread
left_after None old new rest read end = absurd read
left_after (Some bytes) old new rest read end = suffix_after bytes old new rest read end

-- all bytes are their own end
suffix_all : (bytes : List ℕ) → IsSuffix bytes bytes
suffix_all bytes = inr (grind (arith, common_steps))

-- what follows bytes that were read is the end of what there was
pub read_end : (bytes : Option (List ℕ)) (old new : Reader) → IsSomeAnd bytes (λ whole. HasRead whole old new)
    → IsSuffix new.unread old.unread
read_end bytes old new read = left_after bytes old new new.unread read (suffix_all new.unread)

-- after an element that is read, the fault of the old input is that of the new one, which is its end
pub record PassesOver (fault : Fault → Fault) (old new : Reader) : Type 0 where
  pub whole : new.failed ≡ false
  pub next : (g : Fault) → fault g old.unread ≡ g new.unread
  pub left : IsSuffix new.unread old.unread

-- this holds after an element that was read, whose content meets the rule
pub reads_on : (f : Fault) (tag : ℕ) (content : Option (List ℕ)) (old new : Reader)
    → IsSomeAnd content (λ inside. (f inside ≡ None) × HasReadElement tag inside old new)
    → PassesOver (element_fault tag f) old new
reads_on f tag None old new some = absurd some
reads_on f tag (Some inside) old new (meets, found) = record {
  whole = ap (λ (r : Reader). r.failed) found.read.unfailed;
  next = λ g. read_element f g tag inside old new found ∙ rw meets refl;
  left = suffix_after (element tag inside) old new new.unread found.read (suffix_all new.unread);
}

-- a reader that hasn't refused is known by its bytes
pub reader_at : (r : Reader) (bytes : List ℕ) → r.unread ≡ bytes → r.failed ≡ false
    → r ≡ reader_over bytes
reader_at r bytes unread whole = rw (← unread, ← whole) refl
