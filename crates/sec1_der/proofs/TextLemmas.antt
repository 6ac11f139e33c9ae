-- The dotted text of an identifier.
use Rattle.std.proofs.Common.{◌≡◌, ℕ, ◌+◌, ◌*◌, ◌/◌, ◌^◌, ◌<◌, ◌≤◌, List, [], ◌∷◌, ◌++◌, length, ap, sym, arith}
use Rattle.std.proofs.Common.{length-append, append_assoc}
use Rattle.std.proofs.lemmas.Fmt.{length-decimal-le}
use Rattle.std.proofs.lemmas.Int.Digits.{number_digits_of, all_below_base_digits_of}
use Rattle.std.proofs.lemmas.List.{append-nil, length-map}
use Rattle.std.specs.Fmt.{decimal}
use Rattle.std.specs.Int.Digits.{number_from_digits, AllBelowBase}
use Rattle.std.specs.List.{AllByRecursion, flat_map}
use Rattle.sec1_der.specs.Identifiers.{IsIdentifier, dotted, further_text, max_text_length}
use Rattle.sec1_der.proofs.IdentifierLaws.{arcs_allowed}
use Rattle.sec1_der.specs.Elements.{base128}
use Rattle.sec1_der.proofs.IdentifierLemmas.{content_fits, read_arcs}

-- a dotted text is the first arc and the text of the further arcs
pub dotted_text : (n : ℕ) (ns : List ℕ) → dotted (n ∷ ns) ≡ decimal n ++ further_text ns
dotted_text n [] = sym (append-nil (decimal n))
dotted_text n (m ∷ ms) = ap (λ text. decimal n ++ (46 ∷ text)) (dotted_text m ms)

-- a dotted text in substrings, and the length of substrings
pub ruleset text_substrings = (dotted_text, length-append, append_assoc, append-nil)

-- ---- the room that a text takes

-- a full stop and the digits of m are at most four times as many as the base 128 digits of n, where m isn't larger
arc_room : (m n : ℕ) → m ≤ n → n < 2 ^ 32 → 1 + length (decimal m) ≤ 4 * length (base128 n)
arc_room m n le fits =
    simp (length-append, length-map)
    (few _ (all_below_base_digits_of 128 (n / 128) (omega arith)) (number_digits_of 128 (n / 128) (omega arith)))
  where
    few : (digits : List ℕ) → AllBelowBase 128 digits → number_from_digits 128 digits ≡ n / 128
        → 1 + length (decimal m) ≤ 4 * (length digits + 1)
    few [] below whole = omega (arith, length-decimal-le 3 m)
    few (d ∷ []) below whole = omega (arith, length-decimal-le 5 m)
    few (d ∷ e ∷ []) below whole = omega (arith, length-decimal-le 7 m)
    few (d ∷ e ∷ f ∷ ds) below whole = omega (arith, length-decimal-le 10 m)

-- the text of m and further arcs is at most four times as long as the content of n and these, where m isn't larger
further_room : (m n : ℕ) (ns : List ℕ) → m ≤ n → AllByRecursion (λ n. n < 2 ^ 32) (n ∷ ns)
    → length (further_text (m ∷ ns)) ≤ 4 * length (flat_map base128 (n ∷ ns))
further_room m n [] le small = grind (arith, append-nil, arc_room m n le small.0)
further_room m n (k ∷ ks) le small =
    grind (arith, length-append, arc_room m n le small.0, further_room k k ks (omega arith) small.1)

-- the text of an identifier is short
pub text_room : (arcs content : List ℕ) → IsIdentifier arcs content → length (dotted arcs) ≤ max_text_length
text_room (a ∷ b ∷ further) content is =
    let allowed = arcs_allowed (a ∷ b ∷ further) is.allowed in
    let others = further_room b (40 * a + b) further (omega arith) (allowed.2, allowed.3) in
    let short = rw is.encoded at is.short in
    rw (dotted_text a (b ∷ further), length-append) (omega (arith, allowed.0, length-decimal-le 1 a))
text_room [] content is = absurd (cc (is.allowed))
text_room (a ∷ []) content is = absurd (cc (is.allowed))

-- the text of a content, and its room
pub ruleset text_of_content = (content_fits, read_arcs, text_room)
