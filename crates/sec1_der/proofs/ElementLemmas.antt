-- The lengths of headers and elements, and what the elements and fields of values are.
use Rattle.std.proofs.Common.{ℕ, ◌≤◌, nat_lt, [], ◌∷◌, length, arith}
use Rattle.std.proofs.lemmas.Bool.{cond_both}
use Rattle.std.proofs.lemmas.Int.Digits.{length-digits_of-le}
use Rattle.sec1_der.specs.Elements.{max_length, length_octets, header}

-- a length is encoded in at most five bytes
length-len : (n : ℕ) → n ≤ max_length → length (length_octets n) ≤ 5
unfolding length_octets
length-len n within =
    let digits = length-digits_of-le 256 4 n (omega arith) (omega arith) in
    cond_both (nat_lt n 0x80) (n ∷ []) _ (λ encoded. length encoded ≤ 5) (λ _. omega arith) (λ _. omega arith)

-- a header has at most six bytes
pub length-header : (tag n : ℕ) → n ≤ max_length → length (header tag n) ≤ 6
length-header tag n within = let encoded = length-len n within in omega arith
