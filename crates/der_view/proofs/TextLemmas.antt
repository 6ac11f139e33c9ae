-- Numbers and characters as text.
use Rattle.std.proofs.Common.{◌≡◌, ℕ, zero, suc, ◌*◌, ◌/◌, ◌%◌, ◌^◌, ◌<◌, ◌≤◌, List, [], ◌∷◌, ◌++◌, true, refl, sym}
use Rattle.std.proofs.Common.{◌∙◌, ap, arith, append_assoc, append-nil, inl, inr, decimal, ◌==◌, false}
use Rattle.std.proofs.Common.{pow-suc}
use Rattle.std.specs.Fmt.{digit_glyph, digits, digits_onto}
use Rattle.std.proofs.lemmas.Bool.{cases_Bool}
use Rattle.std.proofs.lemmas.Bool.Decides.{nat_tests}
use Rattle.std.proofs.lemmas.Fmt.{hex_one_digit}
use Rattle.sec1_der.specs.Identifiers.{dotted, further_text}
use Rattle.der_view.proofs.LineLemmas.{kept_pieces, until_full}

-- a number of one digit, and one of more
onto-last : (k n : ℕ) (rest : List ℕ) → n < 16 → digits_onto (suc k) 16 true n rest ≡ digit_glyph true (n % 16) ∷ rest
onto-last k n rest low = let one : (n / 16 == 0) ≡ true = grind (arith, nat_tests) in rw one refl

onto-step : (k n : ℕ) (rest : List ℕ) → 16 ≤ n
    → digits_onto (suc k) 16 true n rest ≡ digits_onto k 16 true (n / 16) (digit_glyph true (n % 16) ∷ rest)
onto-step k n rest high = let more : (n / 16 == 0) ≡ false = grind (arith, nat_tests) in rw more refl

-- what digits are put in front of, and more digits than a number has, don't change these
onto : (j k n : ℕ) (rest : List ℕ) → n < 16 ^ suc j → j ≤ k
    → digits_onto (suc k) 16 true n rest ≡ digits_onto (suc j) 16 true n [] ++ rest
onto zero k n rest fits few =
    let low : n < 16 = fits in onto-last k n rest low ∙ ap (λ digits. digits ++ rest) (sym (onto-last zero n [] low))
onto (suc j) zero n rest fits few = absurd (omega arith)
onto (suc j) (suc k) n rest fits few = elim (cases_Bool (n / 16 == 0)) [
  | inl last ↦ rw last refl
  | inr more ↦
      let d : List ℕ = digit_glyph true (n % 16) ∷ [] in
      let power : 16 ^ suc (suc j) ≡ 16 ^ suc j * 16 = pow-suc 16 (suc j) in
      let less : n / 16 < 16 ^ suc j = omega arith in
      rw more (onto j k (n / 16) (d ++ rest) less (omega arith)
      ∙ (sym (append_assoc (digits_onto (suc j) 16 true (n / 16) []) d rest)
      ∙ ap (λ digits. digits ++ rest) (sym (onto j j (n / 16) d less (omega arith)))))
]

-- a number in hexadecimal: the digits before its last one, and that
pub hexadecimal-step : (n : ℕ) → 16 ≤ n → n < 2 ^ 64
    → digits 16 true n ≡ digits 16 true (n / 16) ++ digit_glyph true (n % 16) ∷ []
unfolding digits
hexadecimal-step n high fits =
    let d : List ℕ = digit_glyph true (n % 16) ∷ [] in
    let less : n / 16 < 16 ^ 63 = omega arith in
    onto-step 63 n [] high
    ∙ (onto 62 62 (n / 16) d less (omega arith)
    ∙ ap (λ digits. digits ++ d) (sym (onto 62 63 (n / 16) [] less (omega arith) ∙ append-nil _)))

-- the first arc, and those after it
pub dotted-cons : (arc : ℕ) (further : List ℕ) → dotted (arc ∷ further) ≡ decimal arc ++ further_text further
dotted-cons arc [] = sym (append-nil (decimal arc))
dotted-cons arc (next ∷ further) = ap (λ text. decimal arc ++ 0x2E ∷ text) (dotted-cons next further)

pub ruleset arcs = (until_full, dotted-cons)

pub ruleset characters = (kept_pieces, hexadecimal-step, hex_one_digit, nat_tests)
