-- Contents of identifiers, and names, that no curve of the table has.
use Rattle.std.specs.Prelude.{◌≡◌, List, ℕ}
use Rattle.curves.specs.Curves.{IsNameOf, curve_content}
use Rattle.curves.specs.declared.curve.Curve.{Curve}

-- no curve of the table has an identifier with this content
abbrev pub IsOfNoCurve : List ℕ → Type 0
IsOfNoCurve content = (curve : Curve) → curve_content curve ≡ content → ⊥

-- no curve of the table has this name
abbrev pub NamesNoCurve : List ℕ → Type 0
NamesNoCurve text = (curve : Curve) → IsNameOf text curve → ⊥
