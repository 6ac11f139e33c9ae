-- The types of X.680, and tags.
use Rattle.std.specs.Prelude.{◌==◌, ◌&&◌, ℕ, if◌then◌else◌, List, [], ◌∷◌, codes, length, map, not}
use Rattle.std.specs.Prelude.{slice_index_or}
use Rattle.std.specs.Fmt.{decimal}
use Rattle.std.specs.List.{concat}
use denote.Enum.Declared.{tag_of}
use Rattle.der_view.specs.Headers.{is_type}
use Rattle.der_view.specs.contracts.header.Class.{the_type}
use Rattle.der_view.specs.declared.header.Class.{Class}
use Rattle.der_view.specs.declared.header.Tag.{Tag}
use Rattle.der_view.specs.declared.universal.TheConstants.{CLASSES, TYPES}

-- X.680 section 8.4, table 1: the type with this tag number; nothing if there is none
unfoldable pub type_word : ℕ → List ℕ
type_word number = slice_index_or (map (λ text. text.now) TYPES) number []

-- X.690 section 8.1.2.2: the class of a tag, before its number
unfoldable pub class_name : Class → List ℕ
class_name class = (slice_index_or CLASSES (tag_of the_type class) record { now = [] }).now

-- the name of the type, or else the class and the number of the tag in brackets
abbrev pub type_name : Tag → List ℕ
type_name tag =
    if is_type tag tag.number && not (length (type_word tag.number) == 0)
    then type_word tag.number
    else concat (codes "[" ∷ class_name tag.class ∷ decimal tag.number ∷ codes "]" ∷ [])
