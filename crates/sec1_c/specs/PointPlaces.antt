-- The places of a point's coordinates in its encoding (SEC1 v2.0 section 2.3.3).
use Rattle.std.specs.Prelude.{◌≡◌, ◌+◌, ℕ, List}
use Rattle.std.specs.Option.{option_map}
use Rattle.sec1.specs.Points.{Point, tag_byte, x_of, y_of, fixed_width}
use Rattle.sec1_c.specs.Places.{IsPart, span_from}
use Rattle.sec1_c.specs.declared.point.PointParts.{PointParts}

-- the tag of the point, and its coordinates in n bytes each, if its encoding has them
pub record ArePointPartsOf (n : ℕ) (p : Point) (input : List ℕ) (parts : PointParts) : Type 0 where
  pub tag : parts.tag ≡ tag_byte p
  pub x : IsPart input parts.x (option_map (fixed_width n) (x_of p))
  pub y : IsPart input parts.y (option_map (fixed_width n) (y_of p))

-- the tag of the point, and the places of its coordinates in n bytes each
abbrev pub point_places : ℕ → Point → PointParts
point_places n p = record {
  tag = tag_byte p;
  x = span_from 1 (option_map (λ (_ : ℕ). n) (x_of p));
  y = span_from (1 + n) (option_map (λ (_ : ℕ). n) (y_of p));
}
