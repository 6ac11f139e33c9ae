-- The fields of records, as they are counted.
use Rattle.std.proofs.Common.{◌≡◌, ◌≤◌, ◌+◌, ℕ, List, length, Option, Some, IsSome, arith, length-append, le-leb, refl}
use Rattle.std.proofs.lemmas.List.{append-nil}
use Rattle.sec1_der.proofs.LengthLaws.{len_1}
use Rattle.sec1_der.specs.Elements.{max_length, within_limit}
use Rattle.sec1_der.specs.Identifiers.{IsIdentifier, content_of, max_identifier_length}
use Rattle.sec1_der.specs.Trees.{leaf, forest, joined}
use Rattle.sec1.specs.Keys.{field}
use Rattle.sec1_c.specs.KeyPlaces.{parameters_bytes, public_key_bytes}

-- the field [0] of an identifier has two headers of two bytes each
counted : (content : List ℕ) → length content ≤ max_identifier_length
    → length (joined (forest (field 0 (Some (leaf 0x06 content))))) ≡ length content + 4
counted content short = grind (arith, len_1, length-append {A = ℕ}, append-nil {A = ℕ})

-- the length of the field [0] of a curve
pub parameters_counted : (curve content : List ℕ) → IsIdentifier curve content
    → length (parameters_bytes (Some curve)) ≡ length content + 4
parameters_counted curve content is = rw is.encoded (counted (content_of curve) (rw is.encoded at is.short))

-- the length of the field [1] of a short key
pub public_key_counted : (bytes : List ℕ) → length bytes ≤ 124
    → length (public_key_bytes (Some bytes)) ≡ length bytes + 5
public_key_counted bytes short = grind (arith, len_1, length-append {A = ℕ}, append-nil {A = ℕ})

-- fields that are short enough have a length that can be computed
pub limited : (fields : Option (List ℕ)) (bytes : List ℕ) → fields ≡ Some bytes → length bytes ≤ max_length
    → IsSome (within_limit fields)
limited fields bytes there fits = rw (there, le-leb (length bytes) max_length fits) refl
