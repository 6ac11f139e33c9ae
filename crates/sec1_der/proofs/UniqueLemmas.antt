-- Parts that are distinct, and values with one content, are the same.
use Rattle.std.proofs.Common.{◌≡◌, [], ◌∷◌, ◌++◌, ◌∙◌, ℕ, List, Option, Some, None, true, false, ap, refl, sym, ap₂}
use Rattle.std.proofs.Common.{append_assoc}
use Rattle.std.specs.Option.{option_map}
use Rattle.sec1_der.specs.Elements.{element_of}
use Rattle.sec1_der.specs.Parts.{Tags, AreDistinct, Begins, MayFollow, join, one_tag, optional_tag, both_tags}
use Rattle.sec1_der.specs.Parts.{optional_tags, optional_bytes, begins_among, optional_of}
use Rattle.sec1_der.specs.PartLaws.{element_begins}
use Rattle.sec1_der.proofs.PartLemmas.{all_three, next_first, next_second, not_among}
use Rattle.sec1_der.proofs.IdentifierLaws.{identifier_content-some}
use Rattle.sec1_der.specs.Identifiers.{identifier_content}
use Rattle.sec1_der.proofs.JoinLaws.{parted}
use Rattle.sec1_der.proofs.IdentifierLemmas.{read_arcs}
use Rattle.sec1_der.proofs.ElementLaws.{element_apart, element_of-some}

-- no two values have one content
abbrev pub IsUnique : {A : Type 0} → (A → Option (List ℕ)) → Type 0
IsUnique {A} content = (a b : A) (bytes : List ℕ) → content a ≡ Some bytes → content b ≡ Some bytes → a ≡ b

-- where elements of one tag, and what follows them, have the same bytes, the values are the same, and so is what
-- follows them
same_values : (tag : ℕ) {A : Type 0} (content : A → Option (List ℕ)) → IsUnique content → (a b : A) (x y r s : List ℕ)
    → element_of tag (content a) ≡ Some x → element_of tag (content b) ≡ Some y → x ++ r ≡ y ++ s → (a ≡ b) × (r ≡ s)
same_values tag content one a b x y r s e f same =
    let p = element_of-some tag (content a) x e in
    let q = element_of-some tag (content b) y f in
    let is = element_apart tag tag p.inside q.inside r s (cc (p.at.encoded, q.at.encoded, same)) in
    (one a b p.inside p.same (rw is.1 q.same), is.2)

-- elements of one tag are distinct
pub one_distinct : (tag : ℕ) {A : Type 0} (content : A → Option (List ℕ)) → IsUnique content
    → AreDistinct (one_tag tag) (λ a. element_of tag (content a))
one_distinct tag content one a b x y r s distinct e f before rest same =
    same_values tag content one a b x y r s e f same

-- two elements of one tag that have one content are the same
pub unique_inside : (tag : ℕ) {A : Type 0} (content : A → Option (List ℕ)) → IsUnique content
    → IsUnique (λ a. element_of tag (content a))
unique_inside tag content one a b bytes e f = (same_values tag content one a b bytes bytes [] [] e f refl).0

-- bits with one content are the same
pub unique_bits : IsUnique (λ (bytes : List ℕ). element_of 0x03 (Some (0 ∷ bytes)))
unique_bits = unique_inside 0x03 (λ (bytes : List ℕ). Some (0 ∷ bytes)) (λ a b bytes e f. cc (e, f))

-- what may follow an OPTIONAL part may follow the part, and doesn't begin with one of its tags
pub follows_optional : (p : Tags) (rest : List ℕ) → MayFollow (optional_tags p) rest
    → (begins_among p.first rest ≡ false) × MayFollow p rest
follows_optional p [] may = (refl, tt)
follows_optional p (byte ∷ rest) may = not_among byte p.first p.follow may

-- one of the tags of a part that isn't empty is next
pub next_is : (p : Tags) (whole rest : List ℕ) → p.nullable ≡ false → Begins p whole
    → begins_among p.first (whole ++ rest) ≡ true
next_is p [] rest some begins = absurd (cc (some, begins))
next_is p (byte ∷ whole) rest some begins = begins

-- a part begins with one of its tags
abbrev pub BeginsWith : {P : Type 0} → Tags → (P → Option (List ℕ)) → Type 0
BeginsWith {P} tags bytes = (part : P) (whole : List ℕ) → bytes part ≡ Some whole → Begins tags whole

-- what is there begins with one of its tags
pub not_present : (p : Tags) (x r : List ℕ) → p.nullable ≡ false → Begins p x
    → begins_among p.first (x ++ r) ≡ false → ⊥
not_present p x r some begins none = absurd (cc (none, next_is p x r some begins))

-- an OPTIONAL part is apart from what may follow it
pub optional_part_distinct : (p : Tags) {P : Type 0} (bytes : P → Option (List ℕ)) → p.nullable ≡ false
    → BeginsWith p bytes → AreDistinct p bytes
    → AreDistinct (optional_tags p) (optional_bytes bytes)
optional_part_distinct p bytes some begins one None None x y r s distinct e f before rest same =
    let front : x ≡ [] = cc (e) in
    let back : y ≡ [] = cc (f) in
    (refl, rw (front, back) at same)
optional_part_distinct p bytes some begins one None (Some b) x y r s distinct e f before rest same =
    let front : x ≡ [] = cc (e) in
    absurd (not_present p y s some (begins b y f) (rw (rw front at same) at (follows_optional p r before).0))
optional_part_distinct p bytes some begins one (Some a) None x y r s distinct e f before rest same =
    let back : y ≡ [] = cc (f) in
    absurd (not_present p x r some (begins a x e) (rw (sym (rw back at same)) at (follows_optional p s rest).0))
optional_part_distinct p bytes some begins one (Some a) (Some b) x y r s distinct e f before rest same =
    let is = one a b x y r s distinct e f (follows_optional p r before).1 (follows_optional p s rest).1 same in
    (ap (λ v. Some v) is.0, is.1)

-- optional elements of one tag are distinct
pub optional_distinct : (tag : ℕ) {A : Type 0} (content : A → Option (List ℕ)) → IsUnique content
    → AreDistinct (optional_tag tag) (λ (a : Option A). optional_of tag (option_map content a))
optional_distinct tag {A = A} content one a b x y r s distinct e f before rest same =
    optional_part_distinct (one_tag tag) (λ (v : A). element_of tag (content v)) refl
    (λ v. element_begins tag (content v)) (one_distinct tag content one) a b x y r s distinct
    (as_part a ∙ e) (as_part b ∙ f) before rest same
  where
    as_part : (a : Option A)
        → optional_bytes (λ (v : A). element_of tag (content v)) a ≡ optional_of tag (option_map content a)
    as_part None = refl
    as_part (Some v) = refl

-- parts that are distinct are so one after the other
pub pair_distinct : (p q : Tags) {P Q : Type 0} (first : P → Option (List ℕ)) (second : Q → Option (List ℕ))
    → AreDistinct p first → AreDistinct q second
    → ((b : Q) (bytes : List ℕ) → second b ≡ Some bytes → Begins q bytes)
    → AreDistinct (both_tags p q) (λ (ab : P × Q). join (first ab.0) (second ab.1))
pair_distinct p q first second one two begins (a, c) (b, d) x y r s distinct e f before rest same =
    let x = parted (first a) (second c) x e in
    let y = parted (first b) (second d) y f in
    let tags = all_three _ _ _ distinct in
    let split : x.front ++ (x.back ++ r) ≡ y.front ++ (y.back ++ s) =
    sym (append_assoc x.front x.back r) ∙ (rw (x.joined, y.joined) at same ∙ append_assoc y.front y.back s) in
    let front = one a b x.front y.front (x.back ++ r) (y.back ++ s) tags.0 x.first_there y.first_there
    (next_first p q x.back r tags.2 (begins c x.back x.second_there) before)
    (next_first p q y.back s tags.2 (begins d y.back y.second_there) rest) split in
    let back = two c d x.back y.back r s tags.1 x.second_there y.second_there (next_second p q r before)
    (next_second p q s rest) front.1 in
    (ap₂ (λ a c. (a, c)) front.0 back.0, back.1)

-- two values of one part that is all of their bytes are the same
pub unique_parts : (tags : Tags) {A : Type 0} (bytes : A → Option (List ℕ)) → AreDistinct tags bytes
    → tags.distinct ≡ true
    → IsUnique bytes
unique_parts tags bytes one distinct a b whole e f = (one a b whole whole [] [] distinct e f tt tt refl).0

-- two lists of arcs with one content are the same
pub unique_identifier : IsUnique identifier_content
unique_identifier a b bytes e f =
    sym (read_arcs a bytes (identifier_content-some a bytes e)) ∙ read_arcs b bytes (identifier_content-some b bytes f)
