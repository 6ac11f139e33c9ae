-- A number in two's complement, and the number in its bits.
use Rattle.std.proofs.lemmas.Bool.Decides.{nat_tests}
use Rattle.der_view.specs.Values.{integer_text}
use Rattle.std.proofs.Common.{arith, ap, refl, ◌≡◌, ℕ, ◌+◌, ◌-◌, ◌*◌, ◌/◌, ◌%◌, ◌^◌, ◌<◌, ◌≤◌, List, [], ◌∷◌, length}
use Rattle.std.proofs.Common.{pos, negsuc, slice_index, nat_lt, false, Some, decimal, pow-suc, length-take}
use Rattle.std.proofs.lemmas.Int.{ints}
use Rattle.std.specs.Int.Digits.{number_from_digits_after}
use Rattle.sec1_der.specs.Elements.{number_of}
use Rattle.der_types.specs.Integers.{signed_number}
use Rattle.der_types.proofs.TimeLaws.{utc_digits}

number_after-push : (m n : ℕ) (bytes : List ℕ) → number_from_digits_after 256 (m + n) bytes
    ≡ m * 256 ^ length bytes + number_from_digits_after 256 n bytes
number_after-push m n [] = omega arith
number_after-push m n (b ∷ bytes) =
    let shifted : (m + n) * 256 + b ≡ m * 256 + (n * 256 + b) = omega arith in
    rw (shifted, pow-suc 256 (length bytes))
    (omega (arith, number_after-push (m * 256) (n * 256 + b) bytes))

-- the number of a first byte below 80, and those after it
pub integer_text-low : (content : List ℕ) → 1 ≤ length content → length content ≤ 8
    → slice_index content 0 < 0x80 → integer_text content ≡ Some (decimal (number_of content))
integer_text-low [] some few low = absurd (omega arith)
integer_text-low (first ∷ bytes) some few low =
    let short : nat_lt 7 (length bytes) ≡ false = grind (arith, nat_tests) in
    let bit : first / 0x80 ≡ 0 = omega arith in
    let rest : first % 0x80 ≡ first = omega arith in
    let number : signed_number (first ∷ bytes) ≡ pos (number_of (first ∷ bytes)) =
    rw (bit, rest) (omega (arith, ints)) in
    rw (short, number) refl

-- of a first byte from 80 on
pub integer_text-high : (content : List ℕ) → 1 ≤ length content → length content ≤ 8
    → 0x80 ≤ slice_index content 0 → slice_index content 0 < 256 → number_of content < 256 ^ length content
    → integer_text content ≡ Some (45 ∷ decimal (256 ^ length content - number_of content))
integer_text-high [] some few high byte below = absurd (omega arith)
integer_text-high (first ∷ bytes) some few high byte below =
    let short : nat_lt 7 (length bytes) ≡ false = grind (arith, nat_tests) in
    let bit : first / 0x80 ≡ 1 = omega arith in
    let rest : 0x80 + (0 + first % 0x80) ≡ 0 + first = omega arith in
    let number = rw rest at (number_after-push 0x80 (0 + first % 0x80) bytes) in
    let negative : signed_number (first ∷ bytes)
    ≡ negsuc (256 ^ length (first ∷ bytes) - number_of (first ∷ bytes) - 1) =
    rw bit (omega (arith, ints, pow-suc 256 (length bytes))) in
    rw (short, negative) (ap (λ n. Some (45 ∷ decimal n)) (omega arith))

pub ruleset integers = (integer_text-low, integer_text-high, nat_tests)

pub ruleset values = (nat_tests, utc_digits, length-take)
