-- Bytes, the numbers that they encode and the digits that encode a number.
use Rattle.std.proofs.Common.{◌≡◌, ℕ, zero, suc, ◌+◌, ◌-◌, ◌/◌, ◌%◌, ◌^◌, ◌<◌, ◌≤◌, List, ◌++◌, length, get_or, take}
use Rattle.std.proofs.Common.{drop, refl, arith, pow-suc, length-append}
use Rattle.std.proofs.Common.{get_or-drop, take_all}
use Rattle.std.proofs.Math.Nat.{pow-le-pow_right}
use Rattle.std.proofs.lemmas.Grind.{elements}
use Rattle.std.proofs.lemmas.Int.Digits.{number_push, number_more, number_lt}
use Rattle.std.proofs.lemmas.List.{nil_from_length, take_more}
use Rattle.hex.specs.Hex.{IsBytes}
use Rattle.sec1_der.specs.Elements.{number_of}
use Rattle.sec1_der.proofs.DigitLaws.{IsBytes-below}
use Rattle.sec1.specs.Points.{fixed_width}

-- ---- lists of bytes

-- Bytes and bytes after them are bytes.
pub IsBytes-append : (xs ys : List ℕ) → IsBytes xs → IsBytes ys → IsBytes (xs ++ ys)
IsBytes-append xs ys hx hy i = grind (arith, elements, hx i, hy (i - length xs))

-- What is left of bytes is bytes.
pub IsBytes-drop : (n : ℕ) (bs : List ℕ) → IsBytes bs → IsBytes (drop n bs)
IsBytes-drop n bs h i = rw get_or-drop (h (n + i))

-- ---- numbers and digits

-- There are exactly width digits.
pub length-fixed_width : (width n : ℕ) → length (fixed_width width n) ≡ width
unfolding fixed_width
length-fixed_width zero n = refl
length-fixed_width (suc width) n = omega (arith, length-fixed_width width (n / 256), length-append {A = ℕ})

-- The digits are bytes.
pub IsBytes-fixed_width : (width n : ℕ) → IsBytes (fixed_width width n)
unfolding fixed_width
IsBytes-fixed_width zero n i = omega arith
IsBytes-fixed_width (suc width) n i = grind (arith, elements, IsBytes-fixed_width width (n / 256) i, length-fixed_width)

-- The number of at most width bytes is below 256 ^ width.
pub num-below : (width : ℕ) (bs : List ℕ) → IsBytes bs → length bs ≤ width → number_of bs < 256 ^ width
num-below width bs h fits =
    let wide : 256 ^ length bs ≤ 256 ^ width = pow-le-pow_right (omega arith) fits in
    omega (arith, number_lt 256 bs (IsBytes-below bs h))

-- A number below 256 ^ width is encoded by that many digits.
pub num-fixed_width : (width n : ℕ) → n < 256 ^ width → number_of (fixed_width width n) ≡ n
unfolding fixed_width
num-fixed_width zero n h = grind arith
num-fixed_width (suc width) n h =
    grind (arith, pow-suc, num-fixed_width width (n / 256), number_push 256 (fixed_width width (n / 256)) (n % 256))

fixed_width-front : (bs : List ℕ) → IsBytes bs → (i : ℕ) → i ≤ length bs
    → fixed_width i (number_of (take i bs)) ≡ take i bs
unfolding fixed_width
fixed_width-front bs h zero le = refl
fixed_width-front bs h (suc i) le = grind (arith, h i, number_more 256 bs i, take_more bs i 0, fixed_width-front bs h i)

-- Bytes are the digits of the number that they encode.
pub fixed_width-num : (n : ℕ) (bs : List ℕ) → IsBytes bs → length bs ≡ n → fixed_width n (number_of bs) ≡ bs
fixed_width-num n bs h e = rw (take_all n bs (omega arith)) at (fixed_width-front bs h n (omega arith))

-- The last byte has the number's parity.
pub parity_of_last : (bs : List ℕ) → 0 < length bs → number_of bs % 2 ≡ get_or bs (length bs - 1) 0 % 2
parity_of_last bs some = grind (arith, take_all, number_more 256 bs (length bs - 1))

-- The parity of a number by its last digit, if it has one.
pub ruleset last_parity = (parity_of_last, nil_from_length)
