-- The kinds at the places: each is that by which the reader refuses the bytes. And a step of the walk.
use Rattle.std.proofs.Common.{◌≡◌, ◌==◌, ◌∷◌, [], ℕ, zero, suc, ◌+◌, ◌-◌, ◌<◌, ◌≤◌, List, Bool, true, false}
use Rattle.std.proofs.Common.{length, refl, if◌then◌else◌, Some, None, Result, Ok, Err, arith, eqb-true}
use Rattle.std.proofs.Common.{length-drop}
use Rattle.std.proofs.lemmas.Bool.Decides.{nat_tests}
use Rattle.std.specs.Option.{option_or, unwrap_or}
use Rattle.std.specs.Result.{result_map_both}
use Rattle.der_types.proofs.KindLaws.{other_says, set_says}
use Rattle.der_types.specs.AnyElements.{all_tags, among_all, any_element_fault}
use Rattle.der_types.specs.Choices.{optional_part_fault}
use Rattle.der_types.specs.Sequences.{elements_fault, sequence_fault, set_fault}
use Rattle.der_types.specs.Times.{is_generalized_time, is_utc_time}
use Rattle.pkix.proofs.KindLaws.{attribute_says, key_attribute_says}
use Rattle.pkix.specs.Records as records
use Rattle.sec1.specs.KeyFaults.{key_fault}
use Rattle.sec1_der.proofs.FaultLaws.{split_octets}
use Rattle.sec1_der.proofs.ForestFaultLemmas.{forest_at, forest_deep, forest_some, tree_next}
use Rattle.sec1_der.proofs.KindLaws as laws
use Rattle.sec1_der.proofs.KindLaws.{bits_says, byte_says, identifier_says, none_says, test_says, whole_says}
use Rattle.sec1_der.specs.Contents.{bit_string_fault, value_unless, whole_bits_fault, whole_bits_field_fault}
use Rattle.sec1_der.specs.Elements.{is_tag}
use Rattle.sec1_der.specs.Faults.{Fault, SaysKinds, any_fault, content_at, element_fault, end_fault, nested_fault}
use Rattle.sec1_der.specs.Faults.{no_fault, optional_fault, parts_fault, tree_fault}
use Rattle.sec1_der.specs.declared.error.ErrorKind.{ErrorKind}
use Rattle.sec1_der.specs.declared.error.ErrorKind.TheVariants.{Truncated, Tag}
use Rattle.der_view.specs.Containers.{container_fault}
use Rattle.der_view.specs.FaultPlaces.{Component, IsPlaceOf, Place, after, at_first, before, certificate_place}
use Rattle.der_view.specs.FaultPlaces.{comes, container_place, content_place, element_at, fits, key_place}
use Rattle.der_view.specs.FaultPlaces.{level_place, own_fault}
use Rattle.der_view.specs.FaultPlaces.{parts_place, place_of, public_key_place, row_place}
use Rattle.der_view.specs.FaultPlaces.{signature_place, structure_of, tree_place}
use Rattle.der_view.specs.declared.faults.table.Rule.{Rule}
use Rattle.der_view.specs.declared.faults.table.Rule.TheVariants as rules
use Rattle.der_view.specs.declared.faults.table.TheConstants.{ONE_ASYMMETRIC_KEY}
use Rattle.der_view.specs.declared.grammar.Presence.{Presence}
use Rattle.der_view.specs.declared.grammar.Presence.TheVariants.{Needed, Optional, Many}

pub utc_says : SaysKinds (λ utc. value_unless (is_utc_time utc))
utc_says = test_says is_utc_time

pub general_says : SaysKinds (λ general. value_unless (is_generalized_time general))
general_says = test_says is_generalized_time

-- what the types of contents say
pub ruleset says = (set_says, attribute_says, key_attribute_says, utc_says, general_says)

-- ---- one step of the walk

pub fits_tag : (expected tag : ℕ) → fits expected tag ≡ true → is_tag tag ≡ true
fits_tag expected tag is = grind (arith, nat_tests)

-- the element that is there, or is refused
pub ruleset elements = (fits_tag, split_octets)

-- ---- what a place says

-- the element that is next, if its tag fits, and what follows it
abbrev next_fault : ℕ → (ℕ → Fault) → Fault → Fault
next_fault expected content rest [] = Some (Some Truncated)
next_fault expected content rest (tag ∷ bytes) =
    if fits expected tag then parts_fault (content tag) rest (content_at bytes) else Some (Some Tag)

next_says : (p : ℕ → Place) (q : Place) (f : ℕ → Fault) (g : Fault) (expected end : ℕ) (bytes : List ℕ)
    → ((tag end : ℕ) (content : List ℕ) → IsPlaceOf (f tag content) end (p tag end content))
    → ((rest : List ℕ) → length rest < length bytes → IsPlaceOf (g rest) end (q end rest))
    → IsPlaceOf (next_fault expected f g bytes) end (parts_place p q end (element_at expected end bytes))
next_says p q f g expected end [] one two = record { kind = refl; within = omega arith }
next_says p q f g expected end (tag ∷ bytes) one two = by (content_at bytes) shorter
  where
    shorter : (x : List ℕ × List ℕ) → content_at bytes ≡ Ok x → length x.1 ≤ length bytes
    shorter x is = grind (arith, length-drop {A = ℕ})

    by : (found : Result (List ℕ × List ℕ) ErrorKind)
        → ((x : List ℕ × List ℕ) → found ≡ Ok x → length x.1 ≤ length bytes) → IsPlaceOf
        (if fits expected tag then parts_fault (f tag) g found else Some (Some Tag)) end (parts_place p q end
        (if fits expected tag then result_map_both (λ x. (tag, x.0, x.1)) (before end bytes) found
        else Err (before end (tag ∷ bytes) Tag)))
    by (Err kind) few = grind arith
    by (Ok x) few = grind (arith, few x refl, one tag (end - length x.1) x.0, two x.1)

-- ---- rows

-- the place in a content is that of this refusal
record RuleSays (levels : ℕ) (rule : Rule) (fault : ℕ → Fault) : Type 0 where
  pub says : (tag end : ℕ) (content : List ℕ)
      → IsPlaceOf (fault tag content) end (content_place (level_place levels) rule tag end content)

abbrev rest_place : ℕ → ℕ → List Component → Place
rest_place levels most row = row_place (content_place (level_place levels)) most row

-- and in components
record RowSays (levels : ℕ) (row : List Component) (fault : Fault) : Type 0 where
  pub says : (most end : ℕ) (bytes : List ℕ) → length row + length bytes ≤ most
      → IsPlaceOf (fault bytes) end (rest_place levels most row end bytes)

ends : {levels : ℕ} → RowSays levels [] end_fault
ends = record { says = λ most end bytes few. grind arith }

-- a component that comes once, and what follows it
component : {levels expected : ℕ} {presence : Presence} {rule : Rule} {others : List Component} {f : ℕ → Fault}
    {fault g : Fault} → RuleSays levels rule f → RowSays levels others g
    → after presence ((expected, presence, rule) ∷ others) others ≡ others
    → ((bytes : List ℕ) → fault bytes
    ≡ (if comes presence expected bytes then next_fault expected f g bytes else g bytes))
    → RowSays levels ((expected, presence, rule) ∷ others) fault
component {levels} {expected} {presence} {rule} {others} {f} {fault} {g} one two once is = record { says = by }
  where
    by : (most end : ℕ) (bytes : List ℕ) → suc (length others) + length bytes ≤ most
        → IsPlaceOf (fault bytes) end (rest_place levels most ((expected, presence, rule) ∷ others) end bytes)
    by zero end bytes few = absurd (omega arith)
    by (suc most) end bytes few =
        rw (is bytes, once) (grind (
          arith,
          two.says most end bytes,
          next_says (content_place (level_place levels) rule) (rest_place levels most others) f g expected end bytes
              one.says (λ rest less. two.says most end rest (omega arith)),
        ))

-- the test of a tag is that of the reader
abbrev IsTag : ℕ → Type 0
IsTag t = (tag : ℕ) → fits t tag ≡ (tag == t)

needed : {levels t : ℕ} {rule : Rule} {others : List Component} {f g : Fault} → IsTag t → RuleSays levels rule (λ _. f)
    → RowSays levels others g → RowSays levels ((t, Needed, rule) ∷ others) (element_fault t f g)
needed is one two = component one two refl (λ bytes. grind (arith, is))

optional : {levels t : ℕ} {rule : Rule} {others : List Component} {f g : Fault} → IsTag t
    → RuleSays levels rule (λ _. f) → RowSays levels others g
    → RowSays levels ((t, Optional, rule) ∷ others) (optional_fault t f g)
optional is one two = component one two refl (λ bytes. grind (arith, is))

any : {levels : ℕ} {rule : Rule} {others : List Component} {f : ℕ → Fault} {g : Fault} → RuleSays levels rule f
    → RowSays levels others g → RowSays levels ((0x00, Needed, rule) ∷ others) (any_fault f g)
any one two = component one two refl (λ bytes. refl)

optional_any : {levels : ℕ} {rule : Rule} {others : List Component} {g : Fault} → RuleSays levels rule (λ _. no_fault)
    → RowSays levels others g
    → RowSays levels ((0x00, Optional, rule) ∷ others) (optional_part_fault all_tags any_element_fault g)
unfolding any_element_fault
optional_any one two = component one two refl (λ bytes. grind (arith, among_all))

-- a UTCTime or a GeneralizedTime
timed : {levels : ℕ} {others : List Component} {g : Fault} → RuleSays levels rules.Time (own_fault rules.Time)
    → RowSays levels others g → RowSays levels ((0x17, Needed, rules.Time) ∷ others) (records.time_fault g)
timed {levels} {others} {g} one two = component one two refl by
  where
    same : (tag : ℕ) (bytes : List ℕ) (utc general : Bool) → tag == 0x17 ≡ utc → tag == 0x18 ≡ general
        → records.time_fault g (tag ∷ bytes) ≡ next_fault 0x17 (own_fault rules.Time) g (tag ∷ bytes)
    same tag bytes true general is other = rw (eqb-true tag 0x17 is) refl
    same tag bytes false true is other = rw (eqb-true tag 0x18 other) refl
    same tag bytes false false is other = rw (is, other) refl

    by : (bytes : List ℕ) → records.time_fault g bytes ≡ next_fault 0x17 (own_fault rules.Time) g bytes
    by [] = refl
    by (tag ∷ bytes) = same tag bytes _ _ refl refl

-- elements to the end
many : {levels : ℕ} {rule : Rule} {f : ℕ → Fault} (expected : ℕ) (g : ℕ → Fault) → RuleSays levels rule f
    → ((n : ℕ) → g n [] ≡ None)
    → ((n tag : ℕ) (bytes : List ℕ) → g (suc n) (tag ∷ bytes) ≡ next_fault expected f (g n) (tag ∷ bytes))
    → (n most end : ℕ) (bytes : List ℕ) → length bytes ≤ n → length bytes < most
    → IsPlaceOf (g n bytes) end (rest_place levels most ((expected, Many, rule) ∷ []) end bytes)
many expected g one none some n zero end bytes less few = absurd (omega arith)
many expected g one none some n (suc most) end [] less few = rw (none n) record { kind = refl; within = tt }
many expected g one none some zero (suc most) end (tag ∷ bytes) less few = absurd (omega arith)
many {levels} {rule} {f} expected g one none some (suc n) (suc most) end (tag ∷ bytes) less few =
    rw (some n tag bytes) (next_says (content_place (level_place levels) rule)
    (rest_place levels most ((expected, Many, rule) ∷ [])) f (g n) expected end (tag ∷ bytes) one.says
    (λ rest short. many expected g one none some n most end rest (omega arith) (omega arith)))

repeated : {levels t : ℕ} {rule : Rule} {f : Fault} → IsTag t → RuleSays levels rule (λ _. f)
    → RowSays levels ((t, Many, rule) ∷ []) (sequence_fault t f)
repeated {t = t} {f = f} is one = record {
  says = λ most end bytes few. many t (elements_fault t f) one (λ n. grind arith) (λ n tag bytes. grind (arith, is))
      (length bytes) most end bytes (omega arith) (omega arith);
}

-- ---- contents

abbrev row_of : Rule → List Component
row_of rule = unwrap_or (structure_of rule) []

-- the components of the structure, with one level less
abbrev inner_place : ℕ → Rule → Place
inner_place levels rule = level_place (suc (levels - 1)) (row_of rule)

-- the components are all that is tested
only : {levels : ℕ} {rule : Rule} {f : Fault} → ((tag end : ℕ) (content : List ℕ)
    → content_place (level_place levels) rule tag end content ≡ option_or (inner_place levels rule end content) None)
    → RowSays (levels - 1) (row_of rule) f → RuleSays levels rule (λ _. f)
only {rule = rule} is one = record {
  says = λ tag end content.
      rw (is tag end content) (grind (arith, one.says (length (row_of rule) + length content) end content));
}

-- elements that aren't refused are tested for their order
ordered : {levels : ℕ} {rule : Rule} (f : Fault) → ((tag end : ℕ) (content : List ℕ)
    → content_place (level_place levels) rule tag end content
    ≡ option_or (inner_place levels rule end content) (at_first (set_fault 0x30 f) end content))
    → SaysKinds (set_fault 0x30 f) → RowSays (levels - 1) (row_of rule) (sequence_fault 0x30 f)
    → RuleSays levels rule (λ _. set_fault 0x30 f)
ordered {rule = rule} f is kinds one = record {
  says = λ tag end content. rw (is tag end content)
      (grind (arith, kinds.kind content, one.says (length (row_of rule) + length content) end content));
}

-- a content without components
leaf : {levels : ℕ} {rule : Rule} {f : ℕ → Fault} → ((tag end : ℕ) (content : List ℕ)
    → content_place (level_place levels) rule tag end content ≡ at_first (f tag) end content)
    → ((tag : ℕ) → SaysKinds (f tag)) → RuleSays levels rule f
leaf is kinds =
    record { says = λ tag end content. rw (is tag end content) (grind (arith, (kinds tag).kind content)) }

time_says : (tag : ℕ) → SaysKinds (own_fault rules.Time tag)
time_says tag =
    record { kind = λ time. laws.either_says (tag == 0x17) _ _ (utc_says.kind time) (general_says.kind time) }

point : RuleSays 62 rules.Point (λ _. whole_bits_field_fault)
point = record {
  says = λ tag end content. grind (
    arith,
    one.says (1 + length content) end content,
    next_says (λ _. at_first whole_bits_fault) (at_first no_fault) (λ _. whole_bits_fault) no_fault 0x03 end content
        (λ _ end content. grind (arith, whole_says.kind content)) (λ rest less. record { kind = refl; within = tt }),
  );
}
  where
    one : RowSays 61 (row_of rules.Point) (element_fault 0x03 bit_string_fault end_fault)
    one = needed (λ _. refl) (leaf (λ _ _ _. refl) (λ _. bits_says)) ends

-- by these, a structure of the table is one of the reader
ruleset rows = (needed, optional, any, optional_any, timed, repeated, ends, only, ordered, leaf, point)

ruleset kinds = (none_says, test_says, byte_says, bits_says, identifier_says, time_says, other_says, set_says)

ruleset steps = (rows, kinds, attribute_says, key_attribute_says, refl)

container : RuleSays 63 rules.Container (λ _. container_fault)
container = record {
  says = λ tag end content.
      grind (arith, one.says (5 + length content) end content, zero.says (4 + length content) end content);
}
  where
    one : RowSays 62 ONE_ASYMMETRIC_KEY records.asymmetric_key_fault
    one = search steps depth 60

    zero : RowSays 62 (row_of rules.Container) records.private_key_fault
    zero = search steps depth 60

name : RuleSays 61 rules.Name (λ _. records.names_fault)
unfolding any_element_fault
name = search steps depth 60

tbs_certificate : RuleSays 62 rules.TbsCertificate (λ _. records.tbs_fault)
tbs_certificate = search (name, steps) depth 100 fits 5000

-- ---- trees

-- a content is elements if the tag is constructed
nested : (levels : ℕ) (f : Fault)
    → ((end : ℕ) (bytes : List ℕ) → IsPlaceOf (f bytes) end (level_place levels (row_of rules.Tree) end bytes))
    → RuleSays levels rules.Tree (nested_fault f)
nested levels f one = record { says = λ tag end content. grind (arith, one end content) }

trees : (levels level : ℕ) → level + levels ≡ 65 → (end : ℕ) (bytes : List ℕ)
    → IsPlaceOf (forest_at level bytes) end (level_place levels (row_of rules.Tree) end bytes)
trees zero level is end [] = record { kind = refl; within = tt }
trees zero level is end (byte ∷ bytes) =
    rw (forest_deep level (byte ∷ bytes) (omega arith) (omega (arith, is))) record { kind = refl; within = omega arith }
trees (suc levels) level is end bytes =
    many 0x00 (λ _. forest_at level)
    (nested levels (forest_at (level + 1)) (trees levels (level + 1) (omega (arith, is)))) (λ n. refl)
    (λ n tag bytes. forest_some level (tag ∷ bytes) (omega arith) (omega (arith, is))) (length bytes)
    (1 + length bytes) end bytes (omega arith) (omega arith)

-- ---- the documents

document : {rule : Rule} {f : Fault} → RuleSays 63 rule (λ _. f) → (bytes : List ℕ)
    → IsPlaceOf (element_fault 0x30 f end_fault bytes) (length bytes) (place_of 0x30 rule bytes)
document one bytes = (needed (λ _. refl) one ends).says (1 + length bytes) (length bytes) bytes (omega arith)

pub key_refused : (bytes : List ℕ) → IsPlaceOf (key_fault bytes) (length bytes) (key_place bytes)
unfolding key_fault
key_refused = document (search steps depth 60)

pub tree_refused : (bytes : List ℕ) → IsPlaceOf (tree_fault bytes) (length bytes) (tree_place bytes)
tree_refused bytes =
    rw (tree_next bytes) ((any (nested 63 (forest_at 2) (trees 63 2 refl)) ends).says (1 + length bytes) (length bytes)
    bytes (omega arith))

pub signature_refused : (bytes : List ℕ)
    → IsPlaceOf (element_fault 0x30 records.signature_fault end_fault bytes) (length bytes) (signature_place bytes)
signature_refused = document (search steps depth 60)

pub public_key_refused : (bytes : List ℕ)
    → IsPlaceOf (element_fault 0x30 records.public_key_fault end_fault bytes) (length bytes) (public_key_place bytes)
public_key_refused = document (search steps depth 60)

pub container_refused : (bytes : List ℕ)
    → IsPlaceOf (element_fault 0x30 container_fault end_fault bytes) (length bytes) (container_place bytes)
container_refused = document container

pub certificate_refused : (bytes : List ℕ)
    → IsPlaceOf (element_fault 0x30 records.certificate_fault end_fault bytes) (length bytes) (certificate_place bytes)
certificate_refused = document (search (tbs_certificate, steps) depth 60)
