-- Digits of a number, and the number that digits encode. Further crates cite these laws.
use Rattle.std.proofs.Common.{◌≡◌, ℕ, suc, ◌+◌, ◌*◌, ◌/◌, ◌%◌, ◌<◌, ◌≤◌, List, [], ◌∷◌, ◌++◌, get_or, arith, map, take}
use Rattle.std.proofs.Common.{sym}
use Rattle.std.proofs.lemmas.List.{append_assoc, append-nil, map-append, get_or-take, get_or_past, length-take}
use Rattle.std.proofs.lemmas.Nat.{div-mul-add, mod-mul-add, mul-le}
use Rattle.std.proofs.lemmas.Int.Digits.{digits_of_step}
use Rattle.std.specs.Int.Digits.{digits_of, number_from_digits, number_from_digits_after, AllBelowBase}

-- digits with bit 80 (hexadecimal) set, which means that another one follows
abbrev pub continuing : List ℕ → List ℕ
continuing digits = map (λ digit. 0x80 + digit) digits

-- one digit more
pub digits_of-push : (b n d : ℕ) → 2 ≤ b → d < b → 0 < n * b + d
    → digits_of b (n * b + d) ≡ digits_of b n ++ d ∷ []
digits_of-push b n d two below some =
    grind (arith, digits_of_step b (n * b + d) two some, div-mul-add, mod-mul-add)

-- digits after those of a number
pub digits_of-number_after : (b n : ℕ) (ds : List ℕ) → 2 ≤ b → AllBelowBase b ds → 0 < n
    → digits_of b (number_from_digits_after b n ds) ≡ digits_of b n ++ ds
digits_of-number_after b n [] two below some = sym (append-nil (digits_of b n))
digits_of-number_after b n (d ∷ ds) two below some =
    let more : 0 < n * b + d = omega (arith, mul-le 1 2 n b some two) in
    grind (
      arith,
      digits_of-number_after b (n * b + d) ds two below.1 more,
      digits_of-push b n d two below.0 more,
      append_assoc,
    )

-- digits without a leading 0 are those of their number
pub digits_of-number : (b d : ℕ) (ds : List ℕ) → 2 ≤ b → AllBelowBase b (d ∷ ds) → 0 < d
    → digits_of b (number_from_digits b (d ∷ ds)) ≡ d ∷ ds
digits_of-number b d ds two below some =
    grind (arith, digits_of-number_after b d ds two below.1 some, digits_of-push b 0 d two below.0)

-- each element is a byte, as the type of a slice says it
abbrev pub IsBytes : List ℕ → Type 0
IsBytes xs = (i : ℕ) → get_or xs i 0 < 256

-- bytes are digits in base 256
pub IsBytes-below : (xs : List ℕ) → IsBytes xs → AllBelowBase 256 xs
IsBytes-below [] h = tt
IsBytes-below (x ∷ xs) h = (h 0, IsBytes-below xs (λ i. h (suc i)))

-- the first of some bytes are bytes
pub IsBytes-take : (k : ℕ) (xs : List ℕ) → IsBytes xs → IsBytes (take k xs)
IsBytes-take k xs h =
    λ i. grind (arith, h i, get_or-take k xs i 0, get_or_past (take k xs) i 0, length-take)

-- the digits of a number, without the last
pub marked_step : (n : ℕ) → 0 < n
    → continuing (digits_of 128 n) ≡ continuing (digits_of 128 (n / 128)) ++ (128 + n % 128) ∷ []
marked_step n some = grind (arith, digits_of_step 128 n, map-append)
