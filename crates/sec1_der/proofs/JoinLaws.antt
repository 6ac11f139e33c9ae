-- The bytes of one part after another. Further crates cite this law.
use Rattle.std.proofs.Common.{◌≡◌, ℕ, ◌+◌, List, length, ◌++◌, Option, Some, None, refl, ap, ◌∙◌, length-append}
use Rattle.sec1_der.specs.Parts.{join}

-- the bytes of both, one after the other
pub record AreJoined (first second : Option (List ℕ)) (bytes : List ℕ) : Type 0 where
  pub front : List ℕ
  pub back : List ℕ
  pub first_there : first ≡ Some front
  pub second_there : second ≡ Some back
  pub joined : bytes ≡ front ++ back
  pub total : length bytes ≡ length front + length back

-- a row that has bytes has those of its first component, and those of the rest
pub parted : (first second : Option (List ℕ)) (bytes : List ℕ) → join first second ≡ Some bytes
    → AreJoined first second bytes
parted None second bytes e = absurd (cc e)
parted (Some xs) None bytes e = absurd (cc e)
parted (Some xs) (Some ys) bytes e =
    let joined : bytes ≡ xs ++ ys = cc in
    let total = ap length joined ∙ length-append xs ys in
    record { front = xs; back = ys; first_there = refl; second_there = refl; joined = joined; total = total }
