use Rattle.std.proofs.Common.{◌∷◌, [], lit<, lit≤}
use Rattle.sec1_der.proofs.DigitLaws.{digits_of-number}
use Rattle.sec1_der.proofs.LengthLaws.{len_long}
use Rattle.sec1_tests.proofs.der.checks.example_lengths.Goals as goal

pub returns-clause-greatest : goal.returns-clause-greatest
returns-clause-greatest c =
    -- Written out, since counting down from so large a number takes too long.
    len_long 268435455 (0x0F ∷ 0xFF ∷ 0xFF ∷ 0xFF ∷ []) (lit≤ tt)
    (digits_of-number 256 0x0F (0xFF ∷ 0xFF ∷ 0xFF ∷ []) (lit≤ tt)
    (lit< tt, (lit< tt, (lit< tt, (lit< tt, tt)))) (lit< tt))
