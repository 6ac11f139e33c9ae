-- Which alternative of a CHOICE is next, and parts that are distinct.
use Rattle.std.proofs.Common.{◌≡◌, ◌==◌, ◌++◌, ◌∷◌, [], ◌||◌, not, ℕ, List, Bool, true, false, Option, Some, None, refl}
use Rattle.std.proofs.Common.{sym, ◌∙◌, ap}
use Rattle.std.proofs.lemmas.List.Folds.{list_any-append}
use Rattle.std.specs.List.{list_all}
use Rattle.sec1_der.proofs.PartLemmas.{all_three, distinct_among, not_among}
use Rattle.sec1_der.proofs.UniqueLemmas.{BeginsWith, follows_optional, next_is, not_present}
use Rattle.sec1_der.specs.Readers.{Reader, reader_over}
use Rattle.sec1_der.specs.Parts.{Tags, is_among, Begins, MayFollow, AreDistinct}
use Rattle.der_types.specs.Choices.{begins_among, choice_of, choice_tags, optional_bytes, optional_tags}
use Rattle.der_types.specs.declared.choice.Choice.{Choice}
use Rattle.der_types.specs.declared.choice.Choice.TheVariants.{First, Second}

pub among_either : (tag : ℕ) (xs ys : List ℕ) (next found : Bool) → next ≡ is_among tag xs → next ≡ found
    → is_among tag (xs ++ ys) ≡ (found || is_among tag ys)
among_either tag xs ys next found e is =
    list_any-append (λ other. tag == other) xs ys ∙ ap (λ b. b || is_among tag ys) (sym e ∙ is)

-- what may follow a CHOICE may follow each of its alternatives
pub follows_both : (p q : Tags) (rest : List ℕ) → MayFollow (choice_tags p q) rest → MayFollow p rest × MayFollow q rest
follows_both p q [] may = (tt, tt)
follows_both p q (byte ∷ rest) may = not_among byte p.follow q.follow may

-- no tag of another part is next
pub next_not : (p q : Tags) (whole rest : List ℕ) → list_all (λ x. not (is_among x q.first)) p.first ≡ true
    → q.nullable ≡ false → Begins q whole
    → begins_among p.first (whole ++ rest) ≡ false
next_not p q [] rest d some begins = absurd (cc (some, begins))
next_not p q (byte ∷ whole) rest d some begins = distinct_among byte p.first q.first d begins

-- the alternatives of a CHOICE that are distinct, and may not begin with the same tag
pub distinct_parts : (p q : Tags) → (choice_tags p q).distinct ≡ true
    → (p.distinct ≡ true) × (q.distinct ≡ true) × (list_all (λ x. not (is_among x q.first)) p.first ≡ true)
distinct_parts p q distinct = all_three p.distinct q.distinct _ distinct

-- two parts don't begin with the same tag
not_both : (p q : Tags) (x y : List ℕ) → list_all (λ x. not (is_among x q.first)) p.first ≡ true
    → p.nullable ≡ false → q.nullable ≡ false → (r s : List ℕ) → Begins p x
    → Begins q y → x ++ r ≡ y ++ s → ⊥
not_both p q x y d some more r s begins ends same =
    let is = next_is p x r some begins in
    let not = rw (← same) at (next_not p q y s d more ends) in
    absurd (cc (is, not))

-- the alternatives of a CHOICE are distinct
pub choice_distinct : (p q : Tags) {P Q : Type 0} (first : P → Option (List ℕ)) (second : Q → Option (List ℕ))
    → p.nullable ≡ false → q.nullable ≡ false
    → BeginsWith p first → BeginsWith q second → AreDistinct p first → AreDistinct q second
    → AreDistinct (choice_tags p q) (choice_of first second)
choice_distinct p q first second some more begins ends one two (First a) (First b) x y r s distinct e f before rest
    same =
    let is = one a b x y r s (distinct_parts p q distinct).0 e f (follows_both p q r before).0
    (follows_both p q s rest).0 same in
    (ap (λ v. First v) is.0, is.1)
choice_distinct p q first second some more begins ends one two (First a) (Second b) x y r s distinct e f before rest
    same =
    absurd (not_both p q x y (distinct_parts p q distinct).2 some more r s (begins a x e) (ends b y f) same)
choice_distinct p q first second some more begins ends one two (Second a) (First b) x y r s distinct e f before rest
    same =
    absurd (not_both p q y x (distinct_parts p q distinct).2 some more s r (begins b y f) (ends a x e) (sym same))
choice_distinct p q first second some more begins ends one two (Second a) (Second b) x y r s distinct e f before rest
    same =
    let is = two a b x y r s (distinct_parts p q distinct).1 e f (follows_both p q r before).1
    (follows_both p q s rest).1 same in
    (ap (λ v. Second v) is.0, is.1)

-- a part that is there, in front of what may follow it
pub record IsNext {P : Type 0} (tags : Tags) (bytes : P → Option (List ℕ)) (whole rest : List ℕ) : Type 0 where
  pub part : P
  pub distinct : tags.distinct ≡ true
  pub same : bytes part ≡ Some whole
  pub may : MayFollow tags rest

-- what a reader found to be next
pub next_found : (tags : Tags) (old : Reader) (bytes : List ℕ) (absent found : Bool)
    → absent ≡ not (begins_among tags.first old.unread) → absent ≡ found
    → old ≡ reader_over bytes
    → begins_among tags.first bytes ≡ not found
next_found tags old bytes absent found e same is = flip (begins_among tags.first bytes) found (sym same ∙ rw is at e)
  where
    flip : (b c : Bool) → c ≡ not b → b ≡ not c
    flip true c e = rw e refl
    flip false c e = rw e refl

-- if a tag of the first alternative is next, that is the one
pub first_next : (p q : Tags) {P Q : Type 0} (first : P → Option (List ℕ)) (second : Q → Option (List ℕ))
    → q.nullable ≡ false → BeginsWith q second
    → (part : Choice P Q) (whole rest : List ℕ) → (choice_tags p q).distinct ≡ true
    → choice_of first second part ≡ Some whole → MayFollow (choice_tags p q) rest
    → begins_among p.first (whole ++ rest) ≡ true → IsNext p first whole rest
first_next p q first second more ends (First part) whole rest distinct same may next =
    record { part = part; distinct = (distinct_parts p q distinct).0; same = same; may = (follows_both p q rest may).0 }
first_next p q first second more ends (Second part) whole rest distinct same may next =
    absurd (cc (next, next_not p q whole rest (distinct_parts p q distinct).2 more (ends part whole same)))

-- if none is next, it is the second
pub second_next : (p q : Tags) {P Q : Type 0} (first : P → Option (List ℕ)) (second : Q → Option (List ℕ))
    → p.nullable ≡ false → BeginsWith p first
    → (part : Choice P Q) (whole rest : List ℕ) → (choice_tags p q).distinct ≡ true
    → choice_of first second part ≡ Some whole → MayFollow (choice_tags p q) rest
    → begins_among p.first (whole ++ rest) ≡ false → IsNext q second whole rest
second_next p q first second some begins (First part) whole rest distinct same may next =
    absurd (not_present p whole rest some (begins part whole same) next)
second_next p q first second some begins (Second part) whole rest distinct same may next =
    record { part = part; distinct = (distinct_parts p q distinct).1; same = same; may = (follows_both p q rest may).1 }

-- if a tag of an OPTIONAL part is next, it is present
pub present_next : (p : Tags) {P : Type 0} (bytes : P → Option (List ℕ)) (part : Option P) (whole rest : List ℕ)
    → p.distinct ≡ true
    → optional_bytes bytes part ≡ Some whole → MayFollow (optional_tags p) rest
    → begins_among p.first (whole ++ rest) ≡ true → IsNext p bytes whole rest
present_next p bytes None whole rest distinct same may next =
    let none : whole ≡ [] = cc same in
    let after : begins_among p.first rest ≡ true = rw none at next in
    absurd (cc (after, (follows_optional p rest may).0))
present_next p bytes (Some part) whole rest distinct same may next =
    record { part = part; distinct = distinct; same = same; may = (follows_optional p rest may).1 }

-- if none is next, it is absent
pub absent_next : (p : Tags) {P : Type 0} (bytes : P → Option (List ℕ)) → p.nullable ≡ false → BeginsWith p bytes
    → (part : Option P) (whole rest : List ℕ)
    → optional_bytes bytes part ≡ Some whole → begins_among p.first (whole ++ rest) ≡ false → whole ≡ []
absent_next p bytes some begins None whole rest same next = cc (same)
absent_next p bytes some begins (Some part) whole rest same next =
    absurd (not_present p whole rest some (begins part whole same) next)
