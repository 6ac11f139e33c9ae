-- An element is determined by its bytes, and has a content that it can hold. Further crates cite
-- these laws.
use Rattle.std.proofs.Common.{◌≡◌, ℕ, ◌≤◌, nat_le, List, length, Option, Some, None, refl, append_assoc, ◌++◌, [], sym}
use Rattle.std.proofs.Common.{ap, ◌∙◌}
use Rattle.std.proofs.lemmas.Bool.{le-leb, leb-true}
use Rattle.sec1_der.specs.Elements.{max_length, header, element, element_of}
use Rattle.sec1_der.specs.PartLaws.{chosen}
use Rattle.sec1_der.proofs.LengthLaws.{len_apart, split_same}

-- two headers that begin one list
pub header_apart : (tag n tag' n' : ℕ) (r s : List ℕ) → header tag n ++ r ≡ header tag' n' ++ s
    → (tag ≡ tag') × (n ≡ n') × (r ≡ s)
header_apart tag n tag' n' r s e =
    let (lengths, rests) = len_apart n n' r s (cc) in (cc, lengths, rests)

-- an element is determined by a list that it begins
pub element_apart : (tag tag' : ℕ) (b c r s : List ℕ) → element tag b ++ r ≡ element tag' c ++ s
    → (tag ≡ tag') × (b ≡ c) × (r ≡ s)
element_apart tag tag' b c r s e =
    let here = append_assoc (header tag (length b)) b r in
    let there = append_assoc (header tag' (length c)) c s in
    let heads = header_apart tag (length b) tag' (length c) (b ++ r) (c ++ s)
    (sym here ∙ e ∙ there) in
    let (contents, rest) = split_same b c r s heads.1 heads.2 in
    (heads.0, contents, rest)

-- the bytes are those of the element with this tag and content, and no more
pub record IsElementOf (tag : ℕ) (content bytes : List ℕ) : Type 0 where
  pub bounded : length content ≤ max_length
  pub encoded : bytes ≡ element tag content

-- a content, and the element around it
pub record FoundContent (tag : ℕ) (content : Option (List ℕ)) (bytes : List ℕ) : Type 0 where
  pub inside : List ℕ
  pub same : content ≡ Some inside
  pub at : IsElementOf tag inside bytes

-- what has an element has a content that an element can hold
pub element_of-some : (tag : ℕ) (content : Option (List ℕ)) (bytes : List ℕ)
    → element_of tag content ≡ Some bytes
    → FoundContent tag content bytes
element_of-some tag None bytes e = absurd (cc e)
element_of-some tag (Some inside) bytes e =
    let (fits, same) = chosen (nat_le (length inside) max_length) (element tag inside) bytes e in
    record {
      inside = inside;
      same = refl;
      at = record { bounded = leb-true (length inside) max_length fits; encoded = sym same };
    }

-- a content that an element can hold has its element
pub element_of-within : (tag : ℕ) (content : Option (List ℕ)) (inside : List ℕ)
    → content ≡ Some inside
    → length inside ≤ max_length
    → element_of tag content ≡ Some (element tag inside)
element_of-within tag content inside e within =
    rw (e, le-leb (length inside) max_length within) refl

-- the content of a value whose element is this one
pub element_of-inside : (tag : ℕ) (content : Option (List ℕ)) (inside : List ℕ)
    → element_of tag content ≡ Some (element tag inside) → content ≡ Some inside
element_of-inside tag content inside e =
    let there = element_of-some tag content (element tag inside) e in
    let same = element_apart tag tag there.inside inside [] []
    (ap (λ xs. xs ++ []) (sym there.at.encoded)) in
    there.same ∙ ap Some same.1
