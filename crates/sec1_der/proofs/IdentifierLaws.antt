-- The test for the arcs of an identifier is exact: an identifier has its content, and any other
-- list of numbers has none.
use Rattle.std.proofs.Common.{◌≡◌, ℕ, ◌+◌, ◌*◌, ◌^◌, ◌<◌, ◌≤◌, Bool, true, ◌&&◌, ◌||◌, nat_lt, nat_le, IsTrue, List, []}
use Rattle.std.proofs.Common.{◌∷◌, length, Some, refl, arith, le-leb, leb-true}
use Rattle.std.proofs.lemmas.Bool.{and_parts}
use Rattle.std.proofs.lemmas.Bool.Decides.{nat_tests}
use Rattle.std.specs.Bool.{Decides}
use Rattle.std.specs.List.{AllByRecursion, list_all}
use Rattle.sec1_der.specs.Identifiers.{content_of, IsIdentifier, are_arcs, identifier_content, max_identifier_length}
use Rattle.sec1_der.specs.PartLaws.{chosen}

-- two or more arcs of an identifier, whose content may be of any length
abbrev pub AreArcs : List ℕ → Type 0
AreArcs [] = ⊥
AreArcs (a ∷ []) = ⊥
AreArcs (a ∷ b ∷ further) =
    (a ≤ 2) × (a < 2 → b < 40) × (40 * a + b < 2 ^ 32)
    × AllByRecursion (λ arc. arc < 2 ^ 32) further

one_below : (n : ℕ) (rest : Bool) (P : Type 0) → Decides rest P
    → Decides (nat_lt n (2 ^ 32) && rest) ((n < 2 ^ 32) × P)
one_below n rest P d = grind (arith, nat_tests)

all_below : (ns : List ℕ)
    → Decides (list_all (λ arc. nat_lt arc (2 ^ 32)) ns) (AllByRecursion (λ arc. arc < 2 ^ 32) ns)
all_below [] = (λ _. tt, λ _. refl)
all_below (n ∷ ns) = one_below n _ _ (all_below ns)

two_arcs : (a b : ℕ) (rest : Bool) (P : Type 0) → Decides rest P
    → Decides (nat_le a 2
    && ((nat_le 2 a || nat_lt b 40) && (nat_lt (40 * a + b) (2 ^ 32) && rest)))
    ((a ≤ 2) × (a < 2 → b < 40) × (40 * a + b < 2 ^ 32) × P)
two_arcs a b rest P d = grind (arith, nat_tests)

are_arcs-decides : (arcs : List ℕ) → Decides (are_arcs arcs) (AreArcs arcs)
are_arcs-decides [] = (λ e. absurd (cc e), λ h. absurd h)
are_arcs-decides (a ∷ []) = (λ e. absurd (cc e), λ h. absurd h)
are_arcs-decides (a ∷ b ∷ further) = two_arcs a b _ _ (all_below further)

-- the test for arcs is exact
pub arcs_allowed : (arcs : List ℕ) → IsTrue (are_arcs arcs) → AreArcs arcs
arcs_allowed arcs e = (are_arcs-decides arcs).0 e

pub arcs_tested : (arcs : List ℕ) → AreArcs arcs → IsTrue (are_arcs arcs)
arcs_tested arcs h = (are_arcs-decides arcs).1 h

-- whether a list is the arcs of an identifier, whose content isn't too long
abbrev pub is_identifier : List ℕ → Bool
is_identifier arcs = are_arcs arcs && nat_le (length (content_of arcs)) max_identifier_length

-- if the test succeeds, the arcs are an identifier's
pub is_identifier-true : (arcs : List ℕ) → is_identifier arcs ≡ true
    → IsIdentifier arcs (content_of arcs)
is_identifier-true arcs e =
    let (allowed, short) = and_parts (are_arcs arcs) _ e in
    record { allowed = allowed; encoded = refl; short = leb-true _ _ short }

-- the test succeeds for the arcs of an identifier
pub is_identifier-valid : (arcs content : List ℕ) → IsIdentifier arcs content
    → is_identifier arcs ≡ true
is_identifier-valid arcs content h =
    rw (h.allowed, le-leb (length (content_of arcs)) max_identifier_length (rw (← h.encoded) h.short)) refl

-- arcs that have a content are an identifier's
pub identifier_content-some : (arcs content : List ℕ) → identifier_content arcs ≡ Some content
    → IsIdentifier arcs content
identifier_content-some arcs content e =
    let h = chosen (is_identifier arcs) (content_of arcs) content e in
    rw (← h.1) (is_identifier-true arcs h.0)

-- an identifier has this content
pub identifier_content-valid : (arcs content : List ℕ) → IsIdentifier arcs content
    → identifier_content arcs ≡ Some content
identifier_content-valid arcs content h =
    rw (is_identifier-valid arcs content h, ← h.encoded) refl
