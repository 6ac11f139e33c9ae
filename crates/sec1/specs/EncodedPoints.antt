-- The point of a value, and the results of reading one.
use Rattle.std.specs.Prelude.{◌≡◌, ℕ, List, take, drop, Result, IsOkAnd, IfOk, IfErr, OnOk}
use Rattle.std.specs.List.{All}
use Rattle.sec1_der.specs.Elements.{IsProperPrefix}
use Rattle.sec1.specs.Points.{Point, IsPoint, Fits, encoding, identity, meaning}
use Rattle.sec1.specs.Points.{x_of}
use Rattle.sec1.specs.declared.error.Error.{Error}
use Rattle.sec1.specs.declared.error.Error.TheVariants.{PointEncoding}
use Rattle.sec1.specs.declared.point.EncodedPoint.{EncodedPoint}

-- the point of a value; the bytes after its encoding are ignored
abbrev pub point_of : {N L : ℕ} → EncodedPoint N L → Point
point_of {N} p = meaning N (take p.len p.bytes)

-- each byte of the value's buffer is 00, also those after its encoding
abbrev HasZeros : {N L : ℕ} → EncodedPoint N L → Type 0
HasZeros p = All (λ byte. byte ≡ 0) p.bytes

-- the bytes of the two buffers are the same but for the first, also those after the encodings
abbrev KeepsBuffer : {N L : ℕ} → EncodedPoint N L → EncodedPoint N L → Type 0
KeepsBuffer p q = drop 1 q.bytes ≡ drop 1 p.bytes

-- the identity, with nothing in the rest of its buffer
pub record IsWiped {N L : ℕ} (p : EncodedPoint N L) : Type 0 where
  pub point : point_of p ≡ identity
  pub wiped : HasZeros p

-- a form of a point, which keeps x and all bytes of the buffer but the first; taking it again
-- changes nothing
pub record IsInForm {N L : ℕ} (form : Point → Point) (p q : EncodedPoint N L) : Type 0 where
  pub point : point_of q ≡ form (point_of p)
  pub same_x : x_of (point_of q) ≡ x_of (point_of p)
  pub once : form (point_of q) ≡ point_of q
  pub kept : KeepsBuffer p q

-- The point is read whose encoding is such, and PointEncoding is returned if none is.
pub record ReadsPoint {N L : ℕ} (IsSuch : List ℕ → Type 0)
    (result : Result (EncodedPoint N L) Error) : Type 0 where
  pub found : IfOk result
      (λ point. Fits N L × IsPoint N (point_of point) × IsSuch (encoding N (point_of point)))
  pub only : (p : Point) → Fits N L → IsPoint N p → IsSuch (encoding N p)
      → IsOkAnd result (λ point. point_of point ≡ p)
  pub kind : IfErr result (λ e. e ≡ PointEncoding)

-- The point is read whose encoding is the input. No encoding of one size is a proper prefix of
-- another.
pub record ReadsBytes {N L : ℕ} (input : List ℕ)
    (result : Result (EncodedPoint N L) Error) : Type 0 where
  pub point : ReadsPoint (λ bytes. input ≡ bytes) result
  pub begins_none : OnOk result
      ((other : Point) → IsPoint N other → ¬ IsProperPrefix input (encoding N other))
  pub begun_by_none : OnOk result
      ((other : Point) → IsPoint N other → ¬ IsProperPrefix (encoding N other) input)
