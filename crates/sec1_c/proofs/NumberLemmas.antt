-- Numbers by their digits, with and without zeros in front.
use Rattle.std.proofs.Common.{◌≡◌, ◌≢◌, ◌∷◌, [], ℕ, List, length, arith, refl}
use Rattle.std.specs.Int.Digits.{digits_of}
use Rattle.sec1_der.proofs.DigitLaws.{IsBytes, IsBytes-below, digits_of-number}
use Rattle.sec1_der.specs.Elements.{number_of}

-- digits without a zero in front are those of their number
pub digits-no_zero : (bytes : List ℕ) (first : ℕ) (further : List ℕ) → IsBytes bytes → bytes ≡ first ∷ further
    → first ≢ 0
    → digits_of 256 (number_of bytes) ≡ bytes
digits-no_zero [] first further are is some = refl
digits-no_zero (byte ∷ bytes) first further are is some =
    digits_of-number 256 byte bytes (omega arith) (IsBytes-below (byte ∷ bytes) are) (grind arith)

-- no digits are those of 0
pub digits-none : (bytes : List ℕ) → length bytes ≡ 0 → digits_of 256 (number_of bytes) ≡ bytes
digits-none [] none = refl
digits-none (byte ∷ bytes) none = absurd (omega arith)

pub ruleset leading_digits = (digits-no_zero, digits-none)
