-- Bytes of one length are ordered as the numbers that they encode, and encodings as their points.
use Rattle.std.proofs.Common.{◌≡◌, ℕ, suc, ◌+◌, ◌*◌, ◌^◌, ◌<◌, ◌≤◌, take, drop, w64, List, [], ◌∷◌, ◌++◌, length, refl}
use Rattle.std.proofs.Common.{arith, Ordering, Less, Equal, nat_cmp}
use Rattle.std.proofs.Common.{take-append-drop, length-take-le}
use Rattle.std.specs.Int.{from_be_bytes}
use Rattle.std.specs.Int.Digits.{number_from_digits_after}
use Rattle.std.specs.Ordering.{ordering_then}
use Rattle.std.specs.Cmp.Lexicographic.{slice_cmp}
use Rattle.hex.specs.Hex.{IsBytes}
use Rattle.sec1_der.specs.Elements.{number_of}
use Rattle.sec1_der.proofs.DigitLaws.{IsBytes-take}
use Rattle.sec1.specs.Points.{Point, IsPoint, fixed_width, encoding}
use Rattle.sec1.specs.PointOrder.{point_cmp}
use Rattle.sec1.proofs.DigitLemmas.{IsBytes-fixed_width, length-fixed_width, num-fixed_width}
use Rattle.sec1.proofs.PointOrderLemmas.{nat_cmp-Equal}

-- ---- steps of an order

-- A tie after an order changes nothing.
then-Equal : (o : Ordering) → ordering_then o Equal ≡ o
then-Equal Less = refl
then-Equal o = refl

-- ---- bytes

-- One digit more decides only at a tie.
digit_decides : (a b x y : ℕ) → x < 256 → y < 256
    → nat_cmp (a * 256 + x) (b * 256 + y) ≡ ordering_then (nat_cmp a b) (nat_cmp x y)
digit_decides a b x y hx hy = grind arith

-- Bytes of one length, after the digits of a and of b, are ordered as their numbers.
slice_cmp-after : (a b : ℕ) (xs ys : List ℕ) → IsBytes xs → IsBytes ys → length xs ≡ length ys
    → ordering_then (nat_cmp a b) (slice_cmp nat_cmp xs ys)
    ≡ nat_cmp (number_from_digits_after 256 a xs) (number_from_digits_after 256 b ys)
slice_cmp-after a b [] [] hx hy e = then-Equal (nat_cmp a b)
slice_cmp-after a b (x ∷ xs) (y ∷ ys) hx hy e =
    grind (
      arith,
      digit_decides a b x y (hx 0) (hy 0),
      slice_cmp-after (a * 256 + x) (b * 256 + y) xs ys (λ i. hx (suc i))
          (λ i. hy (suc i)) (omega arith),
    )
slice_cmp-after a b xs ys hx hy e = absurd (omega arith)

slice_cmp-digits : (n x y : ℕ) → x < 256 ^ n → y < 256 ^ n
    → slice_cmp nat_cmp (fixed_width n x) (fixed_width n y) ≡ nat_cmp x y
slice_cmp-digits n x y hx hy =
    grind (
      arith,
      slice_cmp-after 0 0 (fixed_width n x)
          (fixed_width n y),
      IsBytes-fixed_width,
      length-fixed_width,
      num-fixed_width,
    )

-- Fronts of one length are compared first.
slice_cmp-append : (a b c d : List ℕ) → length a ≡ length c
    → slice_cmp nat_cmp (a ++ b) (c ++ d) ≡ ordering_then (slice_cmp nat_cmp a c) (slice_cmp nat_cmp b d)
slice_cmp-append [] b [] d e = refl
slice_cmp-append (x ∷ a) b (y ∷ c) d e = grind (arith, slice_cmp-append a b c d (omega arith))
slice_cmp-append a b c d e = absurd (omega arith)

-- ---- eight bytes as one number

word_num : (bs : List ℕ) → length bs ≡ 8 → from_be_bytes w64 bs ≡ number_of bs
word_num (a ∷ b ∷ c ∷ d ∷ e ∷ f ∷ g ∷ h ∷ []) l = omega arith
word_num bs l = absurd (omega arith)

-- Eight bytes are compared as one number, and where that ties the bytes after them are.
pub words_decide : (xs ys : List ℕ) → IsBytes xs → IsBytes ys → 8 ≤ length xs → 8 ≤ length ys
    → slice_cmp nat_cmp xs ys
    ≡ ordering_then (nat_cmp (from_be_bytes w64 (take 8 xs)) (from_be_bytes w64 (take 8 ys)))
    (slice_cmp nat_cmp (drop 8 xs) (drop 8 ys))
words_decide xs ys hx hy long other_long =
    let words = slice_cmp-after 0 0 (take 8 xs) (take 8 ys) (IsBytes-take 8 xs hx) (IsBytes-take 8 ys hy) in
    let parts = slice_cmp-append (take 8 xs) (drop 8 xs) (take 8 ys) (drop 8 ys) in
    grind (
      arith,
      words,
      parts,
      word_num (take 8 xs),
      word_num
          (take 8 ys),
      length-take-le {A = ℕ},
      take-append-drop 8 xs,
      take-append-drop 8 ys,
    )

-- What decides a comparison of eight bytes at a time.
pub ruleset word_steps = (words_decide, nat_cmp-Equal)

-- ---- encodings

-- Encodings are ordered as their points.
pub slice_cmp-enc : (n : ℕ) (p q : Point) → IsPoint n p → IsPoint n q
    → slice_cmp nat_cmp (encoding n p) (encoding n q) ≡ point_cmp p q
unfolding encoding point_cmp
slice_cmp-enc n p q h k =
    grind (arith, slice_cmp-append, slice_cmp-digits, length-fixed_width, then-Equal, nat_cmp-Equal)
