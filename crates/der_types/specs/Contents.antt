-- Contents that a test decides, and those of a BOOLEAN and of a BIT STRING.
use Rattle.std.specs.Prelude.{ℕ, nat_lt, Bool, if◌then◌else◌, List, length, Option, Some, None}
use Rattle.std.specs.Prelude.{◌==◌, true, false, ◌||◌, [], ◌∷◌}
use Rattle.sec1_der.specs.Contents.{value_unless, are_bits}
use Rattle.sec1_der.specs.Elements.{max_length}
use Rattle.sec1_der.specs.declared.error.ErrorKind.{ErrorKind}
use Rattle.sec1_der.specs.declared.error.ErrorKind.TheVariants.{Overlength}

-- the content of a value with these bytes, if they pass the test
abbrev pub content_if : (List ℕ → Bool) → List ℕ → Option (List ℕ)
content_if passes bytes = if passes bytes then Some bytes else None

-- the kind by which a value with this content is refused: it is too long, or doesn't pass the test
abbrev pub new_fault : (List ℕ → Bool) → List ℕ → Option (Option ErrorKind)
new_fault passes content =
    if nat_lt max_length (length content) then Some (Some Overlength)
    else value_unless (passes content)

-- X.690 sections 8.2.2 and 11.1: the one byte 00 is FALSE, and FF, all of whose bits are ones, is
-- TRUE.
abbrev pub boolean_content : Bool → List ℕ
boolean_content false = 0x00 ∷ []
boolean_content true = 0xFF ∷ []

-- X.690 sections 8.2.1, 8.2.2 and 11.1: the content of FALSE or of TRUE, one byte.
abbrev pub is_boolean : List ℕ → Bool
is_boolean [] = false
is_boolean (byte ∷ []) = byte == 0x00 || byte == 0xFF
is_boolean (first ∷ second ∷ bytes) = false

-- the number of unused bits, the lowest of the last byte, and the bytes
pub record BitString : Type 0 where
  pub unused : ℕ
  pub bytes : List ℕ

-- X.690 sections 8.6.2 and 11.2: the number of unused bits, then the bytes, if the unused bits are
-- zero.
abbrev pub bit_string_content : BitString → Option (List ℕ)
bit_string_content bits =
    if are_bits bits.unused bits.bytes then Some (bits.unused ∷ bits.bytes) else None
