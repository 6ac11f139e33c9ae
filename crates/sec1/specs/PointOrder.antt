-- The order of points: by tag, then by coordinates as whole numbers. It is total, and only one
-- point ties with another.
use Rattle.std.specs.Prelude.{◌≡◌, ℕ, ◌<◌, ◌⊎◌, ◌↔◌, Option, Some, None, unwrap_or}
use Rattle.std.specs.declared.cmp.Ordering.{Ordering}
use Rattle.std.specs.declared.cmp.Ordering.TheVariants.{Less, Equal, Greater}
use Rattle.std.specs.Ordering.{nat_cmp, ordering_then}
use Rattle.sec1.specs.Points.{Point, tag_byte, x_of, y_of}

-- both are present, and the first is smaller
abbrev IsLess : Option ℕ → Option ℕ → Type 0
IsLess (Some a) (Some b) = a < b
IsLess (Some a) None = ⊥
IsLess None b = ⊥

-- p is less than q: by the tag; at one tag by x; at one tag and one x by y
abbrev pub IsBelow : Point → Point → Type 0
IsBelow p q = (tag_byte p < tag_byte q)
    ⊎ ((tag_byte p ≡ tag_byte q) × IsLess (x_of p) (x_of q))
    ⊎ ((tag_byte p ≡ tag_byte q) × (x_of p ≡ x_of q) × IsLess (y_of p) (y_of q))

-- how two points are ordered
pub record IsOrderOf (p q : Point) (order : Ordering) : Type 0 where
  pub below : (order ≡ Less) ↔ IsBelow p q
  pub above : (order ≡ Greater) ↔ IsBelow q p
  pub same : (order ≡ Equal) ↔ (p ≡ q)

-- by x, then by y; a coordinate that is absent counts as 0
abbrev coordinates_cmp : Point → Point → Ordering
coordinates_cmp p q =
    ordering_then (nat_cmp (unwrap_or (x_of p) 0) (unwrap_or (x_of q) 0))
    (nat_cmp (unwrap_or (y_of p) 0) (unwrap_or (y_of q) 0))

-- by tag byte, then by coordinates
unfoldable pub point_cmp : Point → Point → Ordering
point_cmp p q = ordering_then (nat_cmp (tag_byte p) (tag_byte q)) (coordinates_cmp p q)
