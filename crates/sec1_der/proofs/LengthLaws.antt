-- A length is read back from its encoding, so that no encoding of a length is a prefix of another.
use Rattle.std.proofs.Common.{⊎_elim, ◌≡◌, ℕ, ◌+◌, ◌<◌, ◌≤◌, List, [], ◌∷◌, ◌++◌, length, take, ◌-◌, refl, ap, sym, ◌∙◌}
use Rattle.std.proofs.Common.{arith, le-ltb, lt-ltb, take_at}
use Rattle.std.proofs.lemmas.Int.Digits.{number_digits_of}
use Rattle.std.proofs.lemmas.Bool.{cases_lt}
use Rattle.std.proofs.lemmas.List.{append_cancel_left}
use Rattle.std.specs.Int.Digits.{digits_of}
use Rattle.sec1_der.specs.Elements.{length_octets}
use Rattle.sec1_der.specs.Faults.{number_at}

-- if two lists with what follows them are the same, and the lists have one length, then the lists
-- are the same, and what follows is
pub split_same : {A : Type 0} (xs ys r s : List A) → length xs ≡ length ys → xs ++ r ≡ ys ++ s
    → (xs ≡ ys) × (r ≡ s)
split_same xs ys r s l e =
    let front : xs ≡ ys = sym (take_at xs r (length xs) refl)
    ∙ (ap (take (length xs)) e ∙ take_at ys s (length xs) (sym l)) in
    (front, append_cancel_left ys r s (ap (λ zs. zs ++ r) (sym front) ∙ e))

-- the short form of a number below 128
pub len_1 : (n : ℕ) → n < 128 → length_octets n ≡ n ∷ []
unfolding length_octets
len_1 n below = rw (lt-ltb n 128 below) refl

-- the long form of a number from 128 on
pub len_long : (n : ℕ) (digits : List ℕ) → 128 ≤ n → digits_of 256 n ≡ digits
    → length_octets n ≡ (128 + length digits) ∷ digits
unfolding length_octets
len_long n digits large e = rw (le-ltb n 128 large, e) refl

-- what a length encodes is its number
pub number_at_octets : (n : ℕ) (rest : List ℕ) → number_at (length_octets n ++ rest) ≡ n
number_at_octets n rest = ⊎_elim
    (λ small. rw (len_1 n small, lt-ltb n 128 small) refl)
    (λ large. let digits = digits_of 256 n in
    let k = 128 + length digits in
    rw (
      len_long n digits large refl,
      le-ltb k 128 (omega arith),
      take_at digits rest (k - 128) (omega arith),
      number_digits_of 256 n (omega arith),
    ) refl)
    (cases_lt n 128)

-- no encoding of a length is a prefix of another
pub len_apart : (m n : ℕ) (r s : List ℕ) → length_octets m ++ r ≡ length_octets n ++ s
    → (m ≡ n) × (r ≡ s)
len_apart m n r s e =
    let same : m ≡ n = sym (number_at_octets m r) ∙ (ap number_at e ∙ number_at_octets n s) in
    (same, append_cancel_left (length_octets n) r s (rw same at e))
