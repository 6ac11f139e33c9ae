-- Lengths of what is within the limit.
use Rattle.std.proofs.Common.{◌≡◌, ℕ, List, length, Bool, true, false, if◌then◌else◌, nat_le}
use Rattle.std.proofs.Common.{Option, Some, None, IsSome, IsSomeAnd, refl}
use Rattle.sec1_der.specs.Elements.{max_length, within_limit}

-- what is within the limit is there
pub there : (bytes : Option (List ℕ)) → IsSome (within_limit bytes) → IsSome bytes
there None is = absurd (cc is)
there (Some bytes) is = refl

-- the length of what is within the limit
pub measured : (n : ℕ) (bytes : Option (List ℕ)) → IsSome (within_limit bytes)
    → IsSomeAnd bytes (λ whole. n ≡ length whole)
    → IsSomeAnd (within_limit bytes) (λ whole. n ≡ length whole)
measured n None is same = absurd (cc is)
measured n (Some bytes) is same = by (nat_le (length bytes) max_length) is
  where
    by : (b : Bool) → IsSome (if b then Some bytes else None)
        → IsSomeAnd (if b then Some bytes else None) (λ whole. n ≡ length whole)
    by true is = same
    by false is = absurd (cc is)
