-- Coordinates borrowed as arrays of bytes.
use Rattle.std.specs.Prelude.{ℕ, zero, suc, List, [], ◌∷◌, ◌++◌, get_or}
use Rattle.std.specs.List.{flat_map}
use Rattle.sec1_der.specs.Elements.{number_of}
use Rattle.sec1.specs.Points.{Point, identity, compact, compressed, uncompressed, hybrid}
use Rattle.sec1.specs.Points.{tag_byte}
use Rattle.sec1.specs.declared.point.coordinates.Coordinates.{Coordinates}
use Rattle.sec1.specs.declared.point.coordinates.Coordinates.TheVariants as parts

-- The first n bytes. Those of a borrowed array are all it has; its length is known only where it is
-- borrowed.
unfoldable pub first_bytes : ℕ → List ℕ → List ℕ
first_bytes zero xs = []
first_bytes (suc n) xs = first_bytes n xs ++ get_or xs n 0 ∷ []

-- the point with these coordinates, the numbers in the borrowed arrays
abbrev pub coordinates_point : {N : ℕ} → Coordinates N → Point
coordinates_point {N} parts.Identity = identity
coordinates_point {N} (parts.Compact x) = compact (number_of (first_bytes N x.now))
coordinates_point {N} (parts.Compressed x y_is_odd) =
    compressed (number_of (first_bytes N x.now)) y_is_odd
coordinates_point {N} (parts.Uncompressed x y) =
    uncompressed (number_of (first_bytes N x.now)) (number_of (first_bytes N y.now))
coordinates_point {N} (parts.Hybrid x y) =
    hybrid (number_of (first_bytes N x.now)) (number_of (first_bytes N y.now))

-- the borrowed arrays
abbrev pub arrays_of : {N : ℕ} → Coordinates N → List (List ℕ)
arrays_of {N} parts.Identity = []
arrays_of {N} (parts.Compact x) = x.now ∷ []
arrays_of {N} (parts.Compressed x y_is_odd) = x.now ∷ []
arrays_of {N} (parts.Uncompressed x y) = x.now ∷ y.now ∷ []
arrays_of {N} (parts.Hybrid x y) = x.now ∷ y.now ∷ []

-- SEC1 v2.0 section 2.3.3: the encoding with these coordinates
abbrev pub coordinates_bytes : {N : ℕ} → Coordinates N → List ℕ
coordinates_bytes {N} c = tag_byte (coordinates_point c) ∷ flat_map (first_bytes N) (arrays_of c)
