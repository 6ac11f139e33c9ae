-- X.690 section 8.1.1: one element of any tag, and what it begins with. Ghost members of traits
-- cite the laws.
use Rattle.std.specs.Prelude.{◌&&◌, ℕ, zero, suc, nat_le, List, [], ◌∷◌, length, drop, get_or, Bool}
use Rattle.std.specs.Prelude.{true, false, Option, Some, None, if◌then◌else◌}
use Rattle.std.specs.Str.{bytes_eq}
use Rattle.sec1_der.specs.Elements.{max_length, is_tag, length_octets, element}
use Rattle.sec1_der.specs.Parts.{Tags, is_among, Begins}
use Rattle.sec1_der.specs.Faults.{Fault, no_fault, any_fault, number_at}
use Rattle.sec1_der.specs.PartLaws.{chosen}
use Rattle.std.proofs.Common.{◌≡◌, ◌==◌, nat_lt, refl, arith, ⊎_elim, eq-eqb, ◌∙◌}
use Rattle.std.proofs.lemmas.Bool.{lt-ltb, le-ltb, eqb-true, eqb-false, cases_lt, and_parts}

-- the tags below a number
abbrev pub tags_below : ℕ → List ℕ
tags_below zero = []
tags_below (suc n) = if is_tag n then n ∷ tags_below n else tags_below n

-- every tag
unfoldable pub all_tags : List ℕ
all_tags = tags_below 256

-- X.680 section 25.6: an element of any tag
abbrev pub any_tags : Tags
any_tags = record { first = all_tags; nullable = false; follow = []; distinct = true }

-- X.690 section 8.1.2: the tag of an element
abbrev pub first_byte : List ℕ → ℕ
first_byte bytes = get_or bytes 0 0

-- X.690 section 8.1.4: the content of an element, which is what follows its tag and its length
unfoldable pub content_in : List ℕ → List ℕ
content_in bytes = drop (length (length_octets (number_at (drop 1 bytes)))) (drop 1 bytes)

-- X.690 sections 8.1.1 and 10.1: whether the bytes are those of one element, and no more
unfoldable pub is_element : List ℕ → Bool
is_element bytes =
    is_tag (first_byte bytes)
    && (nat_le (length (content_in bytes)) max_length
    && bytes_eq (element (first_byte bytes) (content_in bytes)) bytes)

-- the bytes, if they are those of an element
abbrev pub any_of : List ℕ → Option (List ℕ)
any_of bytes = if is_element bytes then Some bytes else None

-- the fault of an element with any tag and any content, and what follows it
unfoldable pub any_element_fault : Fault → Fault
any_element_fault rest = any_fault (λ _. no_fault) rest

-- the numbers below another and itself
below_next : (tag n : ℕ) → (tag == n) ≡ false → nat_lt tag (suc n) ≡ nat_lt tag n
below_next tag n e = ⊎_elim (λ less. rw (lt-ltb tag n less, lt-ltb tag (suc n) (omega arith)) refl)
    (λ more. let other = eqb-false tag n e in
    rw (le-ltb tag n more, le-ltb tag (suc n) (omega arith)) refl) (cases_lt tag n)

-- one more number, which is a tag or isn't
one_more : (tag n : ℕ) (same tagged : Bool) → (tag == n) ≡ same → is_tag n ≡ tagged
    → is_among tag (tags_below n) ≡ (nat_lt tag n && is_tag tag)
    → is_among tag (if tagged then n ∷ tags_below n else tags_below n)
    ≡ (nat_lt tag (suc n) && is_tag tag)
one_more tag n true true e is rest =
    rw (eqb-true tag n e, eq-eqb n n refl, lt-ltb n (suc n) (omega arith), is) refl
one_more tag n true false e is rest =
    rw (rest, eqb-true tag n e, le-ltb n n (omega arith), lt-ltb n (suc n) (omega arith), is) refl
one_more tag n false true e is rest = rw (e, rest, below_next tag n e) refl
one_more tag n false false e is rest = rw (rest, below_next tag n e) refl

-- the tags below a number are the tags that are below it
among_below : (tag n : ℕ) → is_among tag (tags_below n) ≡ (nat_lt tag n && is_tag tag)
among_below tag zero = rw (le-ltb tag 0 (omega arith)) refl
among_below tag (suc n) = one_more tag n (tag == n) (is_tag n) refl refl (among_below tag n)

-- a tag is below 256
tag_below : (a b c : Bool) → (a && ((a && b) && c)) ≡ ((a && b) && c)
tag_below true b c = refl
tag_below false b c = refl

-- a byte is among them if it is a tag
pub among_all : (byte : ℕ) → is_among byte all_tags ≡ is_tag byte
unfolding all_tags
among_all byte = among_below byte 256 ∙ tag_below (nat_lt byte 256) _ _

begins_tag : (bytes : List ℕ) → is_element bytes ≡ true → Begins any_tags bytes
unfolding is_element
begins_tag [] is = absurd (cc (is))
begins_tag (byte ∷ bytes) is = among_all byte ∙ (and_parts _ _ is).0

-- an element begins with a tag
pub any_begins : (bytes whole : List ℕ) → any_of bytes ≡ Some whole → Begins any_tags whole
any_begins bytes whole e =
    let (is, same) = chosen (is_element bytes) bytes whole e in
    rw (← same) (begins_tag bytes is)
