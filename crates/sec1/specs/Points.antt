-- Points of elliptic curves over prime fields, as whole numbers, and their encodings (SEC1 v2.0
-- section 2.3.3).
use Rattle.std.specs.Prelude.{◌≡◌, ℕ, zero, suc, ◌+◌, ◌*◌, ◌/◌, ◌%◌, ◌^◌, ◌<◌, ◌≤◌, ◌==◌, ◌||◌}
use Rattle.std.specs.Prelude.{Bool, true, false, if◌then◌else◌, List, [], ◌∷◌, ◌++◌, take}
use Rattle.std.specs.Prelude.{drop, ⊤, Option, Some, None}
use Rattle.std.specs.Option.{option_map_or}
use Rattle.sec1_der.specs.Elements.{number_of}

-- A point in the form of its encoding. Compact has x alone and nothing of y; hybrid has y, and its
-- tag the parity of y.
pub data Point : Type 0 where
  identity : Point
  compact : (x : ℕ) → Point
  compressed : (x : ℕ) (y_is_odd : Bool) → Point
  uncompressed : (x y : ℕ) → Point
  hybrid : (x y : ℕ) → Point

-- the coordinates are numbers of n base 256 digits
abbrev pub IsPoint : ℕ → Point → Type 0
IsPoint n identity = ⊤
IsPoint n (compact x) = x < 256 ^ n
IsPoint n (compressed x y_is_odd) = x < 256 ^ n
IsPoint n (uncompressed x y) = (x < 256 ^ n) × (y < 256 ^ n)
IsPoint n (hybrid x y) = (x < 256 ^ n) × (y < 256 ^ n)

-- x, except for the identity
abbrev pub x_of : Point → Option ℕ
x_of identity = None
x_of (compact x) = Some x
x_of (compressed x y_is_odd) = Some x
x_of (uncompressed x y) = Some x
x_of (hybrid x y) = Some x

-- y, if the encoding has it
abbrev pub y_of : Point → Option ℕ
y_of (uncompressed x y) = Some y
y_of (hybrid x y) = Some y
y_of p = None

-- the compressed form of an uncompressed or hybrid point: y is dropped, and its parity kept
abbrev pub compressed_point : Point → Point
compressed_point (uncompressed x y) = compressed x (y % 2 == 1)
compressed_point (hybrid x y) = compressed x (y % 2 == 1)
compressed_point p = p

-- the hybrid form of an uncompressed point
abbrev pub hybrid_point : Point → Point
hybrid_point (uncompressed x y) = hybrid x y
hybrid_point p = p

-- ---- the encoding

-- the last `width` digits of n in base 256, the most significant first, with zeros before them if n
-- has fewer (SEC1 v2.0 sections 2.3.5 and 2.3.7)
unfoldable pub fixed_width : ℕ → ℕ → List ℕ
fixed_width zero n = []
fixed_width (suc width) n = fixed_width width (n / 256) ++ n % 256 ∷ []

-- the first byte: SEC1's 00, 02, 03 and 04, 05 of the compact form, and ANSI X9.62's 06 and 07
abbrev pub tag_byte : Point → ℕ
tag_byte identity = 0
tag_byte (compact x) = 5
tag_byte (compressed x y_is_odd) = if y_is_odd then 3 else 2
tag_byte (uncompressed x y) = 4
tag_byte (hybrid x y) = if y % 2 == 1 then 7 else 6

-- the encoding of a point at field elements of n bytes: the first byte, and x and y if it has them
unfoldable pub encoding : ℕ → Point → List ℕ
encoding n p =
    tag_byte p ∷ option_map_or (fixed_width n) (x_of p) []
    ++ option_map_or (fixed_width n) (y_of p) []

-- these bytes encode some point
pub record IsEncoding (n : ℕ) (bytes : List ℕ) : Type 0 where
  pub of : Point
  pub fits : IsPoint n of
  pub encoded : bytes ≡ encoding n of

-- the point with this first byte and these coordinates
abbrev pub point_from : ℕ → ℕ → ℕ → Point
point_from tag x y =
    if tag == 2 then compressed x false
    else if tag == 3 then compressed x true
    else if tag == 4 then uncompressed x y
    else if tag == 5 then compact x
    else if tag == 6 || tag == 7 then hybrid x y
    else identity

-- the point with this encoding; contracts use it only for encodings
unfoldable pub meaning : ℕ → List ℕ → Point
meaning n [] = identity
meaning n (tag ∷ rest) = point_from tag (number_of (take n rest)) (number_of (take n (drop n rest)))

-- field elements have n bytes, at least one, and the longest encoding has l
abbrev pub Fits : ℕ → ℕ → Type 0
Fits n l = (1 ≤ n) × (l ≡ 2 * n + 1)
