-- The dotted texts of identifiers.
use Rattle.std.specs.Prelude.{◌≡◌, ℕ, List, [], ◌∷◌, ◌++◌}
use Rattle.sec1_der.specs.Identifiers.{IsIdentifier, content_of, dotted}

-- the dotted text of these arcs, and the byte 0 that ends a text in C
abbrev pub c_text : List ℕ → List ℕ
c_text arcs = dotted arcs ++ 0 ∷ []

-- the text is the dotted text of the identifier with these arcs
pub record IsTextOf (arcs text : List ℕ) : Type 0 where
  pub identifier : IsIdentifier arcs (content_of arcs)
  pub encoded : text ≡ dotted arcs

-- the text is the dotted text of some identifier
abbrev pub IsIdentifierText : List ℕ → Type 0
IsIdentifierText text = (arcs : List ℕ) × IsTextOf arcs text
