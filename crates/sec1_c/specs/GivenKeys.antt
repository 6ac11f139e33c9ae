-- The key that a caller describes by its parts.
use Rattle.std.specs.Prelude.{◌≡◌, ◌==◌, ℕ, List, [], Option, Some, None, IfSome, if◌then◌else◌}
use Rattle.sec1_der.specs.Identifiers.{IsIdentifier, content_of}
use Rattle.sec1.specs.Keys.{Key, IsKeyOf}

-- the content of the identifier that names the curve; no bytes if there is none
abbrev pub curve_content : Option (List ℕ) → List ℕ
curve_content None = []
curve_content (Some arcs) = content_of arcs

-- these are the parameters for the content
pub record IsCurveOf (content : List ℕ) (parameters : Option (List ℕ)) : Type 0 where
  pub content_is : content ≡ curve_content parameters
  pub names : IfSome parameters (λ arcs. IsIdentifier arcs (content_of arcs))

-- the content isn't empty, and no identifier has it
abbrev pub IsNoCurve : List ℕ → Type 0
IsNoCurve content = (parameters : Option (List ℕ)) → IsCurveOf content parameters → ⊥

-- the public key with these bytes, or none if the number is 0
abbrev pub public_key_if : ℕ → List ℕ → Option (List ℕ)
public_key_if has_public_key bytes = if has_public_key == 0 then None else Some bytes

-- the key has these parts
pub record IsGiven (key : Key) (private_key curve public_key : List ℕ)
    (has_public_key : ℕ) : Type 0 where
  pub private : key.private_key ≡ private_key
  pub curve_is : IsCurveOf curve key.parameters
  pub public : key.public_key ≡ public_key_if has_public_key public_key

-- The content names a curve or is empty, but the key with these parts has no encoding: one of them
-- is too long.
pub record IsTooLong (private_key curve public_key : List ℕ) (has_public_key : ℕ) : Type 0 where
  pub parameters : Option (List ℕ)
  pub curve_is : IsCurveOf curve parameters
  pub no_bytes : (key : Key) → IsGiven key private_key curve public_key has_public_key
      → (bytes : List ℕ) → ¬ IsKeyOf key bytes
