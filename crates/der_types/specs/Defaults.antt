-- X.690 section 11.5: a component whose value is the default isn't encoded.
use Rattle.std.specs.Prelude.{◌≡◌, not, ℕ, List, [], Bool, true, false, Option, Some, None}
use Rattle.std.specs.Prelude.{if◌then◌else◌, refl}
use Rattle.std.specs.Option.{option_or}
use Rattle.std.specs.Str.{bytes_eq}
use Rattle.sec1_der.specs.Contents.{value_unless}
use Rattle.sec1_der.specs.Elements.{element_of}
use Rattle.sec1_der.specs.Parts.{Begins, optional_tag}
use Rattle.sec1_der.specs.PartLaws.{optional_begins}
use Rattle.sec1_der.specs.Faults.{Fault}

-- whether a content is that of the default value
abbrev pub is_default : List ℕ → Option (List ℕ) → Bool
is_default default None = false
is_default default (Some content) = bytes_eq content default

-- X.690 section 11.5: the element with this tag, or no bytes if the value is the default
abbrev pub defaulted_of : ℕ → List ℕ → Option (List ℕ) → Option (List ℕ)
defaulted_of tag default content =
    if is_default default content then Some [] else element_of tag content

-- the content of a value that isn't the default
abbrev pub other_content : List ℕ → Option (List ℕ) → Option (List ℕ)
other_content default content = if is_default default content then None else content

-- X.690 section 11.5: the fault of a content; the content of the default is refused after it was
-- read
abbrev pub other_fault : List ℕ → Fault → Fault
other_fault default fault content =
    option_or (fault content) (value_unless (not (bytes_eq content default)))

-- a component is empty, or begins with its tag
pub defaulted_begins : (tag : ℕ) (default : List ℕ) (content : Option (List ℕ)) (whole : List ℕ)
    → defaulted_of tag default content ≡ Some whole
    → Begins (optional_tag tag) whole
defaulted_begins tag default content whole e = by (is_default default content) e
  where
    by : (b : Bool) → (if b then Some [] else element_of tag content) ≡ Some whole
        → Begins (optional_tag tag) whole
    by true e = let none : whole ≡ [] = cc (e) in rw none refl
    by false e = optional_begins tag (Some content) whole e
