-- Components with a default value.
use Rattle.std.proofs.Common.{◌≡◌, [], ℕ, List, Bool, true, false, Option, Some, None, if◌then◌else◌, refl, sym, ◌∙◌}
use Rattle.std.proofs.Common.{arith, append-nil, rules}
use Rattle.std.proofs.Math.Seq.{take-append_seam}
use Rattle.std.proofs.lemmas.Slice.Eq.{bytes_eq-Decides}
use Rattle.std.specs.Option.{option_map}
use Rattle.sec1_der.specs.Writers.{HasPrepended, back_state}
use Rattle.sec1_der.specs.Elements.{element_of}
use Rattle.sec1_der.specs.declared.back_writer.BackWriter.{BackWriter}
use Rattle.sec1_der.specs.Parts.{AreDistinct, optional_tag, optional_of}
use Rattle.der_types.specs.Defaults.{is_default, defaulted_of, other_content}

-- the default value is tested as such
pub default_passes : (d : List ℕ) {A : Type 0} (content : A → Option (List ℕ)) (default value : A)
    → content default ≡ Some d → value ≡ default
    → is_default d (content value) ≡ true
default_passes d content default value has same = rw (same, has) ((bytes_eq-Decides d d).1 refl)

-- what is tested as the default has its content
has_default : (d : List ℕ) (content : Option (List ℕ)) → is_default d content ≡ true → content ≡ Some d
has_default d None e = absurd (cc (e))
has_default d (Some bytes) e = rw ((bytes_eq-Decides bytes d).0 e) refl

-- the default value has no bytes
pub default_empty : (tag : ℕ) (d : List ℕ) {A : Type 0} (content : A → Option (List ℕ)) (default value : A)
    → content default ≡ Some d → value ≡ default
    → defaulted_of tag d (content value) ≡ Some []
default_empty tag d content default value has same = rw (default_passes d content default value has same) refl

-- the value, unless it is the default
abbrev pub unless_default : {A : Type 0} → List ℕ → (A → Option (List ℕ)) → A → Option A
unless_default d content value = if is_default d (content value) then None else Some value

-- a component has the bytes of an optional one that isn't the default
pub as_optional : (tag : ℕ) (d : List ℕ) {A : Type 0} (content : A → Option (List ℕ)) (value : A)
    → optional_of tag (option_map (λ a. other_content d (content a)) (unless_default d content value))
    ≡ defaulted_of tag d (content value)
as_optional tag d content value = by (is_default d (content value)) refl
  where
    by : (b : Bool) → is_default d (content value) ≡ b
        → optional_of tag (option_map (λ a. other_content d (content a)) (if b then None else Some value))
        ≡ (if b then Some [] else element_of tag (content value))
    by true e = refl
    by false e = rw e refl

-- an element that isn't that of the default is the component
pub from_optional : (tag : ℕ) (d : List ℕ) (content : Option (List ℕ)) (whole : List ℕ)
    → element_of tag (other_content d content) ≡ Some whole
    → defaulted_of tag d content ≡ Some whole
from_optional tag d content whole e = by (is_default d content) e
  where
    by : (b : Bool) → element_of tag (if b then None else content) ≡ Some whole
        → (if b then Some [] else element_of tag content) ≡ Some whole
    by true e = absurd (cc (e))
    by false e = e

-- components with a default are distinct
pub defaulted_distinct : (tag : ℕ) (d : List ℕ) {A : Type 0} (content : A → Option (List ℕ))
    → ((a b : A) (bytes : List ℕ) → content a ≡ Some bytes → content b ≡ Some bytes → a ≡ b)
    → AreDistinct (optional_tag tag)
    (λ (o : Option A). optional_of tag (option_map (λ a. other_content d (content a)) o))
    → AreDistinct (optional_tag tag) (λ (a : A). defaulted_of tag d (content a))
defaulted_distinct tag d content one two a b x y r s distinct e f before rest same =
    let is = two (unless_default d content a) (unless_default d content b) x y r s distinct
    (as_optional tag d content a ∙ e) (as_optional tag d content b ∙ f)
    before rest same in
    (by (is_default d (content a)) (is_default d (content b)) refl refl is.0, is.1)
  where
    by : (p q : Bool) → is_default d (content a) ≡ p → is_default d (content b) ≡ q
        → (if p then None else Some a) ≡ (if q then None else Some b) → a ≡ b
    by true true e f same = one a b d (has_default d (content a) e) (has_default d (content b) f)
    by true false e f same = absurd (cc (same))
    by false true e f same = absurd (cc (same))
    by false false e f same = cc (same)

-- a writer that wrote nothing
pub nothing_prepended : (writer : BackWriter) → HasPrepended (Some []) writer writer
nothing_prepended writer =
    let unchanged = sym (rw append-nil at (take-append_seam (back_state writer).room [])) in search (rules, arith)
