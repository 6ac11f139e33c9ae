-- What hexadecimal and base64 encode.
use Rattle.std.specs.Prelude.{◌≡◌, ℕ, ◌≤◌, ◌==◌, ◌||◌, ◌&&◌, Bool, List, [], ◌∷◌}
use Rattle.std.specs.Prelude.{length, take, if◌then◌else◌, Option, Some, None}
use Rattle.std.specs.Prelude.{Result, Ok, Err, true, false}
use Rattle.std.specs.Char.{is_ascii_alphanumeric}
use Rattle.std.specs.List.{cons_option}
use Rattle.base64.specs.Engines.{standard, standard_no_pad}
use Rattle.base64.specs.GeneralPurpose.{decode_of as base64_decode_of}
use Rattle.hex.specs.Hex.{decode_of as hex_decode_of}
use Rattle.der_view.specs.Pictures.{plan_of}

-- a space, a tab, a carriage return or a line feed
abbrev pub is_blank : ℕ → Bool
is_blank byte = byte == 0x20 || byte == 0x09 || byte == 0x0D || byte == 0x0A

-- the digit of base64 for a byte after another one, if it is one: any that is no blank; or in what
-- is almost base64 those of base64 and base64url (RFC 4648 sections 4 and 5), without ends of lines
-- that are written as a backslash and a letter
abbrev pub digit_of : Bool → ℕ → ℕ → Option ℕ
digit_of false previous byte = if is_blank byte then None else Some byte
digit_of true previous byte =
    if previous == 0x5C && (byte == 0x6E || byte == 0x72) then None
    else (if is_ascii_alphanumeric byte || (byte == 0x2B || byte == 0x2F) then Some byte
    else (if byte == 0x2D then Some 0x2B else (if byte == 0x5F then Some 0x2F else None)))

-- the digits in a text after this byte
abbrev pub digits_in : Bool → ℕ → List ℕ → List ℕ
digits_in is_almost previous [] = []
digits_in is_almost previous (byte ∷ text) =
    cons_option (digit_of is_almost previous byte) (digits_in is_almost byte text)

-- what was decoded, if there is something
abbrev pub found_of : {E : Type 0} → Result (List ℕ) E → Option (List ℕ)
found_of (Ok bytes) = Some bytes
found_of (Err e) = None

-- the bytes that base64 encodes (RFC 4648 section 4), blanks left out; None if it is none
abbrev pub base64_bytes : List ℕ → Option (List ℕ)
base64_bytes text = found_of (base64_decode_of standard (digits_in false 0 text))

-- what may stand between hexadecimal digits: a blank, a colon or a comma
abbrev pub is_separator : ℕ → Bool
is_separator byte = is_blank byte || (byte == 0x3A || byte == 0x2C)

-- the digits in a text: two by two, with separators and `0x` between
abbrev pub hex_digits : List ℕ → List ℕ
hex_digits [] = []
hex_digits (byte ∷ []) = if is_separator byte then [] else byte ∷ []
hex_digits (byte ∷ next ∷ text) =
    if byte == 0x30 && (next == 0x78 || next == 0x58) then hex_digits text
    else (if is_separator byte then hex_digits (next ∷ text)
    else byte ∷ next ∷ hex_digits text)

-- the bytes that hexadecimal digits encode; None if these aren't such digits
unfoldable pub hex_bytes : List ℕ → Option (List ℕ)
hex_bytes text = found_of (hex_decode_of (hex_digits text))

-- ---- base64 that is no such

abbrev pub tree_in : Option (List ℕ) → Option (List ℕ)
tree_in None = None
tree_in (Some bytes) = if (plan_of bytes).is_tree then Some bytes else None

-- the bytes that such digits encode, if these are one whole element
unfoldable pub mended_bytes : List ℕ → Option (List ℕ)
mended_bytes text = tree_in (found_of (base64_decode_of standard_no_pad (digits_in true 0 text)))

-- these bytes are at the front of the memory, so many of them, or there are none
abbrev pub IsDecoded : Option (List ℕ) → Option ℕ → List ℕ → Type 0
IsDecoded found None memory = found ≡ None
IsDecoded found (Some len) memory = (found ≡ Some (take len memory)) × (len ≤ length memory)
