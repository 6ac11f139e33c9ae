-- The words for the names of components and forms: one table, in the order of the names.
use Rattle.std.specs.Prelude.{◌==◌, Bool, if◌then◌else◌, List, ℕ, [], ◌∷◌, slice_index_or}
use denote.Enum.Declared.{tag_of}
use Rattle.der_view.specs.contracts.grammar.name.Name.{the_type}
use Rattle.der_view.specs.declared.grammar.name.Name.{Name}
use Rattle.der_view.specs.declared.words.TheConstants.{NAMES}

-- a name as its standard spells it
unfoldable pub name_text : Name → List ℕ
name_text name = (slice_index_or NAMES (tag_of the_type name) record { now = [] }).now

-- whether two names are one
abbrev pub same_name : Name → Name → Bool
same_name name other = tag_of the_type name == tag_of the_type other

-- the first of some whose condition holds, or else another
abbrev pub first_true : {A : Type 0} → A → List (Bool × A) → A
first_true other [] = other
first_true other (case ∷ cases) = if case.0 then case.1 else first_true other cases
