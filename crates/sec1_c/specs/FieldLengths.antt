-- The lengths of field elements at which points are read.
use Rattle.std.specs.Prelude.{◌≡◌, ◌≤◌, ℕ, List}
use Rattle.sec1.specs.Points.{Point, IsPoint, encoding}

-- from 1 byte to the 66 bytes of a field of 521 bits
abbrev pub IsFieldLength : ℕ → Type 0
IsFieldLength n = (1 ≤ n) × (n ≤ 66)

-- the bytes are the encoding of this point (SEC1 v2.0 section 2.3.3)
pub record Encodes (n : ℕ) (p : Point) (bytes : List ℕ) : Type 0 where
  pub fits : IsPoint n p
  pub encoded : bytes ≡ encoding n p

-- the bytes are the encodings of these two points
pub record EncodesBoth (n : ℕ) (p q : Point) (first second : List ℕ) : Type 0 where
  pub first_is : Encodes n p first
  pub second_is : Encodes n q second
