use Rattle.std.proofs.Common.{◌≡◌, ◌∷◌, [], length, ap, arith, lit<, lit≤, length-append}
use Rattle.sec1_der.specs.Elements.{length_octets}
use Rattle.sec1_der.proofs.DigitLaws.{digits_of-number}
use Rattle.sec1_der.proofs.LengthLaws.{len_1, len_long}
use Rattle.sec1_tests.proofs.checks.longest_private_key.Goals as goal

-- The length of a version takes one octet.
version_octets : length (length_octets 1) ≡ 1
version_octets = ap length (len_1 1 (lit< tt))

-- The length of the longest private key, and the next, take five.
longest_octets : length (length_octets 268435446) ≡ 5
longest_octets =
    ap length
    (len_long 268435446 (0x0F ∷ 0xFF ∷ 0xFF ∷ 0xF6 ∷ []) (lit≤ tt)
    (digits_of-number 256 0x0F (0xFF ∷ 0xFF ∷ 0xF6 ∷ []) (lit≤ tt)
    (lit< tt, (lit< tt, (lit< tt, (lit< tt, tt)))) (lit< tt)))

next_octets : length (length_octets 268435447) ≡ 5
next_octets =
    ap length
    (len_long 268435447 (0x0F ∷ 0xFF ∷ 0xFF ∷ 0xF7 ∷ []) (lit≤ tt)
    (digits_of-number 256 0x0F (0xFF ∷ 0xFF ∷ 0xF7 ∷ []) (lit≤ tt)
    (lit< tt, (lit< tt, (lit< tt, (lit< tt, tt)))) (lit< tt)))

pub returns-clause-within : goal.returns-clause-within
returns-clause-within c e =
    grind (arith, version_octets, longest_octets, e, c.requires.0, c.requires.1, c.value_len.ensures, length-append)

pub returns-clause-beyond : goal.returns-clause-beyond
returns-clause-beyond c e =
    grind (arith, version_octets, next_octets, e, c.requires.0, c.requires.1, c.value_len.ensures, length-append)
