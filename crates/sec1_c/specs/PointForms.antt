-- The points that a caller describes by their coordinates.
use Rattle.std.specs.Prelude.{◌≡◌, ◌==◌, ℕ, List, length, if◌then◌else◌}
use Rattle.sec1.specs.Points.{Point, compressed_point, uncompressed}
use Rattle.sec1_c.specs.FieldLengths.{IsFieldLength}

-- the bytes of x and y have one length, at which points are read
abbrev pub AreCoordinates : List ℕ → List ℕ → Type 0
AreCoordinates x y = IsFieldLength (length x) × (length y ≡ length x)

-- the uncompressed point with these coordinates; if the number isn't 0, its compressed form
abbrev pub affine_point : ℕ → ℕ → ℕ → Point
affine_point compress x y =
    if compress == 0 then uncompressed x y else compressed_point (uncompressed x y)
