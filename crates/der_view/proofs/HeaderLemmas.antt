-- The header that bytes begin with follows from these bytes alone.
use Rattle.std.proofs.Common.{◌≡◌, refl, ℕ, zero, suc, ◌+◌, ◌*◌, ◌%◌, ◌<◌, ◌≤◌, List, [], ◌∷◌, ◌++◌, length, drop}
use Rattle.std.proofs.Common.{arith}
use Rattle.std.proofs.lemmas.List.{length-append, take-append-le}
use Rattle.std.proofs.lemmas.Bool.Decides.{nat_tests}
use Rattle.std.specs.Prelude.{Option, Result, Ok, Err}
use Rattle.der_view.specs.Headers.{header_after, header_of, header_with, length_at, number_after, tag_at}
use Rattle.der_view.specs.declared.header.ElementFault.{ElementFault}
use Rattle.der_view.specs.declared.header.Header.{Header}
use Rattle.der_view.specs.declared.header.Tag.{Tag}

number_front : (most high : ℕ) (front a b : List ℕ) (p : ℕ × ℕ) → number_after most high (front ++ a) ≡ Ok p
    → (0 < p.1) × (p.1 ≤ length (front ++ a)) × (p.1 ≤ length front → number_after most high (front ++ b) ≡ Ok p)
number_front zero high front a b p is = cc
number_front (suc most) high [] [] b p is = cc
number_front (suc most) high [] (byte ∷ a) b p is =
    grind (arith, nat_tests, number_front most (high * 0x80 + byte % 0x80) [] a b)
number_front (suc most) high (byte ∷ front) a b p is =
    grind (arith, nat_tests, number_front most (high * 0x80 + byte % 0x80) front a b)

tag_front : (front a b : List ℕ) (p : Tag × ℕ) → tag_at (front ++ a) ≡ Ok p
    → (0 < p.1) × (p.1 ≤ length (front ++ a)) × (p.1 ≤ length front → tag_at (front ++ b) ≡ Ok p)
tag_front [] [] b p is = cc
tag_front [] (first ∷ a) b p is = grind (arith, nat_tests, number_front 4 0 [] a b)
tag_front (first ∷ front) a b p is = grind (arith, nat_tests, number_front 4 0 front a b)

-- after so many bytes
length_front : (n : ℕ) (front a b : List ℕ) (p : Option ℕ × ℕ) → length_at (drop n (front ++ a)) ≡ Ok p
    → (0 < p.1) × (n + p.1 ≤ length (front ++ a)) × (n + p.1 ≤ length front → length_at (drop n (front ++ b)) ≡ Ok p)
length_front zero [] [] b p is = cc
length_front zero [] (first ∷ a) b p is = grind (arith, nat_tests, take-append-le, length-append {A = ℕ})
length_front zero (first ∷ front) a b p is = grind (arith, nat_tests, take-append-le, length-append {A = ℕ})
length_front (suc n) [] [] b p is = cc
length_front (suc n) [] (first ∷ a) b p is = grind (arith, length_front n [] a b p is)
length_front (suc n) (first ∷ front) a b p is = grind (arith, length_front n front a b p is)

-- with a length that other bytes begin with too
len_front : (tag : Tag) (n size few : ℕ) (found again : Result (Option ℕ × ℕ) ElementFault) (head : Header)
    → header_with tag n found ≡ Ok head
    → ((p : Option ℕ × ℕ) → found ≡ Ok p → (0 < p.1) × (n + p.1 ≤ size) × (n + p.1 ≤ few → again ≡ Ok p))
    → (n < head.len) × (head.len ≤ size) × (head.len ≤ few → header_with tag n again ≡ Ok head)
len_front tag n size few found again head is next = grind arith

-- a header has two bytes or more, is within the bytes, and is that of all that begin with its bytes
pub header_front : (front a b : List ℕ) (head : Header) → header_of (front ++ a) ≡ Ok head
    → (1 < head.len) × (head.len ≤ length (front ++ a)) × (head.len ≤ length front → header_of (front ++ b) ≡ Ok head)
header_front front a b head is = by_tag (tag_at (front ++ a)) refl is
  where
    by_tag : (found : Result (Tag × ℕ) ElementFault) → tag_at (front ++ a) ≡ found
        → header_after (front ++ a) found ≡ Ok head → (1 < head.len) × (head.len ≤ length (front ++ a))
        × (head.len ≤ length front → header_of (front ++ b) ≡ Ok head)
    by_tag (Err fault) at known = cc
    by_tag (Ok tag) at known =
        let t = tag_front front a b tag at in
        let l = len_front tag.0 tag.1 (length (front ++ a)) (length front) _ (length_at (drop tag.1 (front ++ b))) head
        known (length_front tag.1 front a b) in
        (omega arith, l.1, λ few. rw (t.2 (omega arith)) (l.2 few))
