-- What a part begins with. Ghost members of traits cite these laws.
use Rattle.std.specs.Prelude.{◌≡◌, ◌++◌, ◌∷◌, [], ◌==◌, ℕ, List, Bool, true, false, length, nat_le}
use Rattle.std.specs.Prelude.{Option, Some, None, if◌then◌else◌, refl}
use Rattle.std.proofs.Common.{eq-eqb}
use Rattle.std.proofs.lemmas.Bool.{or_left, or_right}
use Rattle.std.proofs.lemmas.List.Folds.{list_any-append}
use Rattle.sec1_der.specs.Elements.{max_length, element, element_of}
use Rattle.sec1_der.specs.Parts.{Tags, is_among, Begins, join, one_tag, optional_tag, optional_tags}
use Rattle.sec1_der.specs.Parts.{optional_of, both_tags}

-- what is there only if a test passes
pub chosen : {A : Type 0} (passes : Bool) (value found : A)
    → (if passes then Some value else None) ≡ Some found → (passes ≡ true) × (value ≡ found)
chosen true value found e = (refl, cc e)
chosen false value found e = absurd (cc e)

-- an element begins with its tag
pub element_begins : (tag : ℕ) (content : Option (List ℕ)) (whole : List ℕ)
    → element_of tag content ≡ Some whole → Begins (one_tag tag) whole
element_begins tag None whole e = absurd (cc e)
element_begins tag (Some inside) whole e =
    let is = chosen (nat_le (length inside) max_length) (element tag inside) whole e in
    rw (← is.1, eq-eqb tag tag refl) refl

-- what a part begins with, it begins with as an OPTIONAL one
pub or_nothing : (p : Tags) (whole : List ℕ) → Begins p whole → Begins (optional_tags p) whole
or_nothing p [] e = refl
or_nothing p (byte ∷ bytes) e = e

-- an optional element is empty, or begins with its tag
pub optional_begins : (tag : ℕ) (content : Option (Option (List ℕ))) (whole : List ℕ)
    → optional_of tag content ≡ Some whole → Begins (optional_tag tag) whole
optional_begins tag None whole e = let none : whole ≡ [] = cc (e) in rw none refl
optional_begins tag (Some content) whole e =
    or_nothing (one_tag tag) whole (element_begins tag content whole e)

both_begin : (p q : Tags) (x y : List ℕ) → Begins p x → Begins q y
    → Begins (both_tags p q) (x ++ y)
both_begin p q [] [] e f = rw (e, f) refl
both_begin p q [] (byte ∷ y) e f =
    rw (e, list_any-append (λ tag. byte == tag) p.first q.first)
    (or_right (is_among byte p.first) (is_among byte q.first) f)
both_begin p q (byte ∷ x) y e f = by p.nullable
  where
    by : (b : Bool) → is_among byte (if b then p.first ++ q.first else p.first) ≡ true
    by true =
        rw (list_any-append (λ tag. byte == tag) p.first q.first)
        (or_left (is_among byte p.first) (is_among byte q.first) e)
    by false = e

-- one part after another begins with a tag of the first, or with one of the second where the first
-- is empty
pub pair_begins : (p q : Tags) (x y : Option (List ℕ)) (whole : List ℕ) → join x y ≡ Some whole
    → ((front : List ℕ) → x ≡ Some front → Begins p front)
    → ((back : List ℕ) → y ≡ Some back → Begins q back)
    → Begins (both_tags p q) whole
pair_begins p q None y whole e f g = absurd (cc e)
pair_begins p q (Some front) None whole e f g = absurd (cc e)
pair_begins p q (Some front) (Some back) whole e f g =
    let is : whole ≡ front ++ back = cc in
    rw is (both_begin p q front back (f front refl) (g back refl))
