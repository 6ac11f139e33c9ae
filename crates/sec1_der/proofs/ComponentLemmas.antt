-- What the content of a SEQUENCE says of its components.
use Rattle.std.proofs.Common.{◌≡◌, [], ◌++◌, ℕ, List, Option, Some, None, refl, ap}
use Rattle.std.proofs.lemmas.List.{append-nil}
use Rattle.sec1_der.specs.Parts.{join}

-- a row whose parts have bytes has both, one after the other
pub joined : (first second : Option (List ℕ)) (xs ys : List ℕ) → first ≡ Some xs → second ≡ Some ys
    → join first second ≡ Some (xs ++ ys)
joined first second xs ys e f = rw (e, f) refl

-- a component with none after it
pub alone : (first : Option (List ℕ)) → join first (Some []) ≡ first
alone None = refl
alone (Some xs) = ap (λ bytes. Some bytes) (append-nil xs)
