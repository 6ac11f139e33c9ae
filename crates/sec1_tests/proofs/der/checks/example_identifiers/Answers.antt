use Rattle.std.proofs.Common.{◌≡◌, ℕ, List, [], ◌∷◌, ◌++◌, ap, lit<, lit≤}
use Rattle.std.specs.Int.Digits.{digits_of}
use Rattle.sec1_der.proofs.DigitLaws.{continuing}
use Rattle.sec1_der.proofs.DigitLaws.{digits_of-number}
use Rattle.sec1_tests.proofs.der.checks.example_identifiers.Goals as goal

pub returns-clause-greatest : goal.returns-clause-greatest
returns-clause-greatest c =
    -- Written out, since counting down from so large a number takes too long.
    let digits : digits_of 128 33554431 ≡ 0x0F ∷ 0x7F ∷ 0x7F ∷ 0x7F ∷ [] =
    digits_of-number 128 0x0F (0x7F ∷ 0x7F ∷ 0x7F ∷ []) (lit≤ tt) (lit< tt, (lit< tt, (lit< tt, (lit< tt, tt))))
    (lit< tt) in
    ap (λ (ds : List ℕ). (continuing ds ++ 0x7F ∷ []) ++ []) digits
