-- X.680 section 29 and X.690 section 8.13: a CHOICE has the bytes of the alternative that was
-- chosen; and what it and an OPTIONAL part begin with. Ghost members of traits cite the laws.
use Rattle.std.specs.Prelude.{◌++◌, ◌∷◌, [], ◌||◌, ◌&&◌, not, ℕ, List, false, Option, Some, None}
use Rattle.std.specs.Prelude.{if◌then◌else◌, ◌≡◌, ◌==◌, refl}
use Rattle.std.specs.List.{list_all}
pub use Rattle.sec1_der.specs.Parts.{begins_among, optional_bytes, optional_tags}
use Rattle.sec1_der.specs.PartLaws.{or_nothing}
use Rattle.sec1_der.specs.Parts.{Tags, is_among, Begins}
use Rattle.sec1_der.specs.Faults.{Fault}
use Rattle.der_types.specs.declared.choice.Choice.{Choice}
use Rattle.der_types.specs.declared.choice.Choice.TheVariants.{First, Second}
use Rattle.std.proofs.lemmas.Bool.{or_left, or_right}
use Rattle.std.proofs.lemmas.List.Folds.{list_any-append}

-- X.690 section 8.13: the bytes of the alternative that was chosen
abbrev pub choice_of : {P Q : Type 0} → (P → Option (List ℕ)) → (Q → Option (List ℕ)) → Choice P Q
    → Option (List ℕ)
choice_of first second (First part) = first part
choice_of first second (Second part) = second part

-- X.680 section 29.3: the tags of the alternatives must differ
abbrev pub choice_tags : Tags → Tags → Tags
choice_tags p q = record {
  first = p.first ++ q.first;
  nullable = p.nullable || q.nullable;
  follow = p.follow ++ q.follow;
  distinct = p.distinct && (q.distinct && list_all (λ tag. not (is_among tag q.first)) p.first);
}

-- X.690 section 8.13: the fault of the first alternative if one of its tags is next, else that of
-- the second
abbrev pub choice_fault : List ℕ → (Fault → Fault) → (Fault → Fault) → Fault → Fault
choice_fault tags first second rest bytes =
    if begins_among tags bytes then first rest bytes else second rest bytes

-- X.690 section 8.9.3: the fault of the part if one of its tags is next, else that of what follows
-- it
abbrev pub optional_part_fault : List ℕ → (Fault → Fault) → Fault → Fault
optional_part_fault tags part rest bytes =
    if begins_among tags bytes then part rest bytes else rest bytes

-- neither is empty
pub choice_not_empty : (p q : Tags) → p.nullable ≡ false → q.nullable ≡ false
    → (choice_tags p q).nullable ≡ false
choice_not_empty p q e f = rw (e, f) refl

begins_first : (p q : Tags) (whole : List ℕ) → Begins p whole → Begins (choice_tags p q) whole
begins_first p q [] e = rw e refl
begins_first p q (byte ∷ bytes) e =
    rw (list_any-append (λ tag. byte == tag) p.first q.first)
    (or_left (is_among byte p.first) (is_among byte q.first) e)

begins_second : (p q : Tags) (whole : List ℕ) → Begins q whole → Begins (choice_tags p q) whole
begins_second p q [] e = or_right p.nullable q.nullable e
begins_second p q (byte ∷ bytes) e =
    rw (list_any-append (λ tag. byte == tag) p.first q.first)
    (or_right (is_among byte p.first) (is_among byte q.first) e)

-- a CHOICE begins with a tag of one of the alternatives
pub choice_begins : (p q : Tags) {P Q : Type 0} (first : P → Option (List ℕ))
    (second : Q → Option (List ℕ))
    → ((part : P) (whole : List ℕ) → first part ≡ Some whole → Begins p whole)
    → ((part : Q) (whole : List ℕ) → second part ≡ Some whole → Begins q whole)
    → (part : Choice P Q) (whole : List ℕ) → choice_of first second part ≡ Some whole
    → Begins (choice_tags p q) whole
choice_begins p q first second one two (First part) whole e =
    begins_first p q whole (one part whole e)
choice_begins p q first second one two (Second part) whole e =
    begins_second p q whole (two part whole e)

-- an OPTIONAL part is empty, or begins with one of its tags
pub optional_part_begins : (p : Tags) {P : Type 0} (bytes : P → Option (List ℕ))
    → ((part : P) (whole : List ℕ) → bytes part ≡ Some whole → Begins p whole)
    → (part : Option P) (whole : List ℕ) → optional_bytes bytes part ≡ Some whole
    → Begins (optional_tags p) whole
optional_part_begins p bytes one None whole e = let none : whole ≡ [] = cc (e) in rw none refl
optional_part_begins p bytes one (Some part) whole e = or_nothing p whole (one part whole e)
