-- The contents of a BOOLEAN and the values determine each other.
use Rattle.std.specs.Prelude.{◌≡◌, ℕ, Bool, true, false, List, [], ◌∷◌, refl}
use Rattle.std.proofs.Common.{arith}
use Rattle.std.proofs.lemmas.Bool.Decides.{nat_tests}
use Rattle.der_types.specs.Contents.{boolean_content, is_boolean}

-- the content of a value passes the test
pub is_boolean-boolean_content : (value : Bool) → is_boolean (boolean_content value) ≡ true
is_boolean-boolean_content true = refl
is_boolean-boolean_content false = refl

-- bytes that pass the test are the content of a value
pub boolean_content-of : (bytes : List ℕ) → is_boolean bytes ≡ true
    → (value : Bool) × (boolean_content value ≡ bytes)
boolean_content-of [] passes = absurd (cc passes)
boolean_content-of (byte ∷ []) passes = grind (arith, nat_tests)
boolean_content-of (first ∷ second ∷ bytes) passes = absurd (cc passes)

-- values with one content are the same
pub boolean_content-injective : (x y : Bool) → boolean_content x ≡ boolean_content y → x ≡ y
boolean_content-injective x y same = grind arith

-- what the laws of the crate cite
pub ruleset boolean_laws =
    (is_boolean-boolean_content, boolean_content-of, boolean_content-injective)
