-- The dotted text of an identifier is UTF-8.
use Rattle.std.proofs.Common.{◌≡◌, ℕ, ◌^◌, ◌<◌, true, List, [], ◌∷◌, arith}
use Rattle.std.proofs.lemmas.Fmt.{IsAscii-decimal}
use Rattle.std.proofs.lemmas.Str.{IsAscii-append, IsUtf8-from_ascii}
use Rattle.std.proofs.lemmas.Str.Ascii.{IsAscii-cons}
use Rattle.std.specs.Fmt.{decimal}
use Rattle.std.specs.List.{AllByRecursion}
use Rattle.std.specs.Str.{IsAscii, IsUtf8}
use Rattle.sec1_der.specs.Identifiers.{are_arcs, dotted}
use Rattle.sec1_der.proofs.IdentifierLaws.{arcs_allowed}

-- the dotted text of small arcs is ASCII
ascii_dotted : (n : ℕ) (ns : List ℕ) → AllByRecursion (λ n. n < 2 ^ 32) (n ∷ ns) → IsAscii (dotted (n ∷ ns))
ascii_dotted n [] small = IsAscii-decimal n (omega (arith, small.0))
ascii_dotted n (m ∷ ms) small =
    IsAscii-append (decimal n) (46 ∷ dotted (m ∷ ms)) (IsAscii-decimal n (omega (arith, small.0)))
    (IsAscii-cons 46 _ (omega arith) (ascii_dotted m ms small.1))

-- the text of an identifier is UTF-8
pub dotted_utf8 : (arcs : List ℕ) → are_arcs arcs ≡ true → IsUtf8 (dotted arcs)
dotted_utf8 (a ∷ b ∷ further) allowed =
    let are = arcs_allowed (a ∷ b ∷ further) allowed in
    IsUtf8-from_ascii _ (ascii_dotted a (b ∷ further) (omega (arith, are.0), (omega (arith, are.2), are.3)))
dotted_utf8 [] allowed = absurd (cc allowed)
dotted_utf8 (a ∷ []) allowed = absurd (cc allowed)
