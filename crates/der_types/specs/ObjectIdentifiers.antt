-- The contents of an OBJECT IDENTIFIER, of any length.
use Rattle.std.specs.Prelude.{ℕ, ◌<◌, ◌≤◌, nat_lt, Bool, true, ◌&&◌, List, [], ◌∷◌, length}
pub use Rattle.sec1_der.specs.Identifiers.{are_subidentifiers}

-- X.690 section 8.19.2: one or more subidentifiers, one after the other.
abbrev pub is_object_identifier : List ℕ → Bool
is_object_identifier bytes = nat_lt 0 (length bytes) && are_subidentifiers true bytes

-- X.690 section 8.19.4: two or more arcs of any size. The first is 0, 1 or 2, and the second is
-- below 40 under 0 and 1.
abbrev pub AreArcsOfAnySize : List ℕ → Type 0
AreArcsOfAnySize [] = ⊥
AreArcsOfAnySize (a ∷ []) = ⊥
AreArcsOfAnySize (a ∷ b ∷ further) = (a ≤ 2) × (a < 2 → b < 40)
