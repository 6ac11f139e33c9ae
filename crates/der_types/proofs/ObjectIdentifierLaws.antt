-- The contents of an OBJECT IDENTIFIER and the arcs determine each other.
use Rattle.std.proofs.Common.{◌≡◌, ℕ, ◌+◌, ◌*◌, ◌<◌, true, List, [], ◌∷◌, length, arith, ap}
use Rattle.std.proofs.lemmas.Bool.Decides.{nat_tests}
use Rattle.std.proofs.lemmas.List.{length-append}
use Rattle.std.specs.Int.Digits.{AllBelowBase}
use Rattle.std.specs.List.{flat_map}
use Rattle.sec1_der.specs.Elements.{base128}
use Rattle.sec1_der.specs.Identifiers.{content_of, numbers_after, arcs_of_numbers, arcs_of}
use Rattle.sec1_der.proofs.IdentifierLemmas.{encoded_after, read_all}
use Rattle.der_types.specs.ObjectIdentifiers.{AreArcsOfAnySize, are_subidentifiers, is_object_identifier}

-- the content of arcs passes the test, and the arcs are read of it
pub is_object_identifier-content_of : (arcs : List ℕ) → AreArcsOfAnySize arcs
    → (is_object_identifier (content_of arcs) ≡ true) × (arcs_of (content_of arcs) ≡ arcs)
is_object_identifier-content_of [] are = absurd are
is_object_identifier-content_of (a ∷ []) are = absurd are
is_object_identifier-content_of (a ∷ b ∷ further) are =
    let read = read_all ((40 * a + b) ∷ further) in
    grind (arith, nat_tests, read.0, read.1, length-append)

encoded_arcs : (numbers bytes : List ℕ) → 0 < length bytes → bytes ≡ flat_map base128 numbers
    → AreArcsOfAnySize (arcs_of_numbers numbers) × (content_of (arcs_of_numbers numbers) ≡ bytes)
encoded_arcs [] bytes some encoded = absurd (omega (arith, ap length encoded))
encoded_arcs (n ∷ numbers) bytes some encoded = grind (arith, nat_tests)

-- bytes that pass the test are the content of the arcs that are read of them
pub content_of-arcs_of : (bytes : List ℕ) → AllBelowBase 256 bytes
    → is_object_identifier bytes ≡ true
    → AreArcsOfAnySize (arcs_of bytes) × (content_of (arcs_of bytes) ≡ bytes)
content_of-arcs_of [] below passes = absurd (cc passes)
content_of-arcs_of (b ∷ bytes) below passes =
    let whole : are_subidentifiers true (b ∷ bytes) ≡ true = grind (arith, nat_tests) in
    encoded_arcs (numbers_after 0 (b ∷ bytes)) (b ∷ bytes) (omega arith)
    (encoded_after 0 (b ∷ bytes) below whole)

-- what the laws of the crate cite
pub ruleset identifier_laws = (is_object_identifier-content_of, content_of-arcs_of)
