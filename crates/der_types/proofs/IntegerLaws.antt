-- The contents of an INTEGER and the numbers that they encode determine each other.
use Rattle.std.specs.Prelude.{◌≡◌, ℕ, zero, suc, ◌+◌, ◌-◌, ◌*◌, ◌/◌, ◌%◌, ◌^◌, ◌<◌, ◌≤◌, true, List, [], ◌∷◌, length}
use Rattle.std.specs.Prelude.{map, slice_index, ℤ, pos, negsuc, refl}
use Rattle.std.proofs.Common.{arith, ap, sym, ◌∙◌}
use Rattle.std.proofs.Math.Nat.{pow-suc}
use Rattle.std.proofs.lemmas.Bool.Decides.{nat_tests}
use Rattle.std.proofs.lemmas.Int.{ints}
use Rattle.std.proofs.lemmas.Int.Digits.{number_digits_of, all_below_base_digits_of, first_digits_of}
use Rattle.std.specs.Int.Digits.{digits_of, number_from_digits_after, AllBelowBase}
use Rattle.sec1_der.specs.Elements.{number_of}
use Rattle.sec1_der.proofs.DigitLaws.{digits_of-number}
use Rattle.der_types.specs.Integers.{is_integer, is_unsigned, with_sign, unsigned_content, signed_number}
use Rattle.der_types.specs.Integers.{signed_content}

-- ---- numbers that aren't negative

is_unsigned-with_sign : (digits : List ℕ) → AllBelowBase 256 digits
    → (0 < length digits → 0 < slice_index digits 0)
    → is_unsigned (with_sign digits) ≡ true
is_unsigned-with_sign [] below lead = refl
is_unsigned-with_sign (d ∷ []) below lead = grind (arith, nat_tests)
is_unsigned-with_sign (d ∷ e ∷ digits) below lead = grind (arith, nat_tests)

-- the content of a number passes the test
pub is_unsigned-unsigned_content : (n : ℕ) → is_unsigned (unsigned_content n) ≡ true
is_unsigned-unsigned_content n =
    let below = all_below_base_digits_of 256 n (omega arith) in
    is_unsigned-with_sign (digits_of 256 n) below (grind (arith, first_digits_of 256 n))

below-with_sign : (digits : List ℕ) → AllBelowBase 256 digits → AllBelowBase 256 (with_sign digits)
below-with_sign [] below = (omega arith, tt)
below-with_sign (d ∷ digits) below = grind (arith, nat_tests)

number_of-with_sign : (digits : List ℕ) → number_of (with_sign digits) ≡ number_of digits
number_of-with_sign [] = refl
number_of-with_sign (d ∷ digits) = grind (arith, nat_tests)

-- the content of a number has bytes only
pub below-unsigned_content : (n : ℕ) → AllBelowBase 256 (unsigned_content n)
below-unsigned_content n =
    below-with_sign (digits_of 256 n) (all_below_base_digits_of 256 n (omega arith))

-- the content of a number encodes it
pub number_of-unsigned_content : (n : ℕ) → number_of (unsigned_content n) ≡ n
number_of-unsigned_content n =
    number_of-with_sign (digits_of 256 n) ∙ number_digits_of 256 n (omega arith)

-- bytes that pass the test are the content of the number that they encode
pub unsigned_content-number_of : (bytes : List ℕ) → AllBelowBase 256 bytes
    → is_unsigned bytes ≡ true
    → unsigned_content (number_of bytes) ≡ bytes
unsigned_content-number_of [] below passes = absurd (cc passes)
unsigned_content-number_of (zero ∷ []) below passes = refl
unsigned_content-number_of (suc a ∷ []) below passes =
    grind (arith, nat_tests, digits_of-number 256 (suc a) [] (omega arith) below (omega arith))
unsigned_content-number_of (zero ∷ b ∷ bytes) below passes =
    grind (arith, nat_tests, digits_of-number 256 b bytes (omega arith) below.1)
unsigned_content-number_of (suc a ∷ b ∷ bytes) below passes =
    grind (
      arith,
      nat_tests,
      digits_of-number 256 (suc a) (b ∷ bytes) (omega arith) below
          (omega arith),
    )

-- numbers with one content are the same
pub unsigned_content-injective : (m n : ℕ) → unsigned_content m ≡ unsigned_content n → m ≡ n
unsigned_content-injective m n same =
    sym (number_of-unsigned_content m) ∙ ap number_of same ∙ number_of-unsigned_content n

-- ---- each bit turned over

-- the bytes with each bit turned over
abbrev pub flipped : List ℕ → List ℕ
flipped bytes = map (λ byte. 0xFF - byte) bytes

below-flipped : (bytes : List ℕ) → AllBelowBase 256 (flipped bytes)
below-flipped [] = tt
below-flipped (b ∷ bytes) = (omega arith, below-flipped bytes)

flipped-flipped : (bytes : List ℕ) → AllBelowBase 256 bytes → flipped (flipped bytes) ≡ bytes
flipped-flipped [] below = refl
flipped-flipped (b ∷ bytes) below =
    let byte : 0xFF - (0xFF - b) ≡ b = omega arith in
    rw (byte, flipped-flipped bytes below.1) refl

number_after-flipped : (m n : ℕ) (bytes : List ℕ) → AllBelowBase 256 bytes
    → number_from_digits_after 256 m (flipped bytes) + number_from_digits_after 256 n bytes + 1
    ≡ (m + n + 1) * 256 ^ length bytes
number_after-flipped m n [] below = omega arith
number_after-flipped m n (b ∷ bytes) below =
    let shifted : m * 256 + (0xFF - b) + (n * 256 + b) + 1 ≡ (m + n + 1) * 256 = omega arith in
    let digits = rw shifted at
    (number_after-flipped (m * 256 + (0xFF - b)) (n * 256 + b) bytes below.1) in
    rw (pow-suc 256 (length bytes)) (omega arith)

number_after-push : (m n : ℕ) (bytes : List ℕ)
    → number_from_digits_after 256 (m + n) bytes
    ≡ m * 256 ^ length bytes + number_from_digits_after 256 n bytes
number_after-push m n [] = omega arith
number_after-push m n (b ∷ bytes) =
    let shifted : (m + n) * 256 + b ≡ m * 256 + (n * 256 + b) = omega arith in
    rw (shifted, pow-suc 256 (length bytes))
    (omega (arith, number_after-push (m * 256) (n * 256 + b) bytes))

-- the number of a byte below 80 and those after it; of one from 80 on
signed_number_low : (first : ℕ) (bytes : List ℕ) → first < 0x80
    → signed_number (first ∷ bytes) ≡ pos (number_of (first ∷ bytes))
signed_number_low first bytes low =
    let bit : first / 0x80 ≡ 0 = omega arith in
    let rest : first % 0x80 ≡ first = omega arith in
    rw (bit, rest) (omega (arith, ints))

signed_number_high : (first : ℕ) (bytes : List ℕ) → AllBelowBase 256 (first ∷ bytes) → 0x80 ≤ first
    → signed_number (first ∷ bytes) ≡ negsuc (number_of (flipped (first ∷ bytes)))
signed_number_high first bytes below high =
    let whole = number_after-flipped 0 0 (first ∷ bytes) below in
    let bit : first / 0x80 ≡ 1 = omega arith in
    let rest : 0x80 + (0 + first % 0x80) ≡ 0 + first = omega arith in
    let number = rw rest at (number_after-push 0x80 (0 + first % 0x80) bytes) in
    rw bit (omega (arith, ints, pow-suc 256 (length bytes)))

-- ---- all numbers

-- the test tells no byte from it turned over
is_integer-flipped : (bytes : List ℕ) → AllBelowBase 256 bytes
    → is_integer (flipped bytes) ≡ is_integer bytes
is_integer-flipped [] below = refl
is_integer-flipped (a ∷ []) below = refl
is_integer-flipped (a ∷ b ∷ bytes) below = grind (arith, nat_tests)

-- the content of a number passes the test
pub is_integer-signed_content : (z : ℤ) → is_integer (signed_content z) ≡ true
is_integer-signed_content (pos n) = grind (arith, is_unsigned-unsigned_content n)
is_integer-signed_content (negsuc n) =
    rw (is_integer-flipped (unsigned_content n) (below-unsigned_content n))
    (grind (arith, is_unsigned-unsigned_content n))

signed_content_low : (first : ℕ) (bytes : List ℕ) → AllBelowBase 256 (first ∷ bytes)
    → is_integer (first ∷ bytes) ≡ true → first < 0x80
    → signed_content (signed_number (first ∷ bytes)) ≡ first ∷ bytes
signed_content_low first bytes below passes low =
    rw (signed_number_low first bytes low)
    (unsigned_content-number_of (first ∷ bytes) below (grind (arith, nat_tests)))

signed_content_high : (first : ℕ) (bytes : List ℕ) → AllBelowBase 256 (first ∷ bytes)
    → is_integer (first ∷ bytes) ≡ true → 0x80 ≤ first
    → signed_content (signed_number (first ∷ bytes)) ≡ first ∷ bytes
signed_content_high first bytes below passes high =
    let unsigned : is_unsigned (flipped (first ∷ bytes)) ≡ true =
    grind (arith, nat_tests, is_integer-flipped (first ∷ bytes) below) in
    rw (signed_number_high first bytes below high)
    (ap flipped (unsigned_content-number_of (flipped (first ∷ bytes))
    (below-flipped (first ∷ bytes)) unsigned)
    ∙ flipped-flipped (first ∷ bytes) below)

-- bytes that pass the test are the content of the number that they encode
pub signed_content-signed_number : (bytes : List ℕ) → AllBelowBase 256 bytes
    → is_integer bytes ≡ true
    → signed_content (signed_number bytes) ≡ bytes
signed_content-signed_number [] below passes = absurd (cc passes)
signed_content-signed_number (first ∷ bytes) below passes =
    grind (
      arith,
      signed_content_low first bytes below passes,
      signed_content_high first bytes below passes,
    )

signed_number_unsigned : (bytes : List ℕ) → is_unsigned bytes ≡ true
    → signed_number bytes ≡ pos (number_of bytes)
signed_number_unsigned [] passes = refl
signed_number_unsigned (first ∷ bytes) passes =
    signed_number_low first bytes (grind (arith, nat_tests))

signed_number_negative : (bytes : List ℕ) → AllBelowBase 256 bytes → is_unsigned bytes ≡ true
    → signed_number (flipped bytes) ≡ negsuc (number_of bytes)
signed_number_negative [] below passes = absurd (cc passes)
signed_number_negative (first ∷ bytes) below passes =
    signed_number_high (0xFF - first) (flipped bytes) (below-flipped (first ∷ bytes))
    (grind (arith, nat_tests))
    ∙ ap (λ all. negsuc (number_of all)) (flipped-flipped (first ∷ bytes) below)

-- the content of a number encodes it
pub signed_number-signed_content : (z : ℤ) → signed_number (signed_content z) ≡ z
signed_number-signed_content (pos n) =
    signed_number_unsigned (unsigned_content n) (is_unsigned-unsigned_content n)
    ∙ ap pos (number_of-unsigned_content n)
signed_number-signed_content (negsuc n) =
    signed_number_negative (unsigned_content n) (below-unsigned_content n)
    (is_unsigned-unsigned_content n)
    ∙ ap negsuc (number_of-unsigned_content n)

-- contents of one number are the same
pub signed_number-injective : (xs ys : List ℕ) → AllBelowBase 256 xs → AllBelowBase 256 ys
    → is_integer xs ≡ true
    → is_integer ys ≡ true
    → signed_number xs ≡ signed_number ys → xs ≡ ys
signed_number-injective xs ys below_x below_y passes_x passes_y same =
    sym (signed_content-signed_number xs below_x passes_x) ∙ ap signed_content same
    ∙ signed_content-signed_number ys below_y passes_y

-- ---- what the laws of the crate cite

pub ruleset unsigned_laws = (
  is_unsigned-unsigned_content,
  number_of-unsigned_content,
  unsigned_content-number_of,
  unsigned_content-injective,
)

pub ruleset signed_laws = (
  is_integer-signed_content,
  signed_number-signed_content,
  signed_content-signed_number,
  signed_number-injective,
)
