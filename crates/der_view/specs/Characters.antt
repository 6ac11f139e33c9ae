-- The characters of strings, and how they are shown.
use Rattle.std.specs.Prelude.{◌==◌, ℕ, ◌+◌, ◌*◌, ◌%◌, nat_le, Bool, true, ◌&&◌, ◌||◌}
use Rattle.std.specs.Prelude.{if◌then◌else◌, List, [], ◌∷◌, ◌++◌, codes, length, Option, Some, None}
use Rattle.std.specs.Prelude.{is_some}
use Rattle.std.specs.Char.Utf16.{utf16_chars}
use Rattle.std.specs.Fmt.{digits}
use Rattle.std.specs.List.{flat_map, list_all}
use Rattle.std.specs.Str.{chars, is_utf8}
use Rattle.der_types.specs.Strings.{is_ia5, is_numeric_string, is_printable, is_visible}
use Rattle.der_view.specs.declared.characters.Characters.{Characters}
use Rattle.der_view.specs.declared.characters.Characters.TheVariants as encodings

-- X.690 section 8.23.8: units of 16 bits, in two bytes each, the most significant first
abbrev pub units_of : List ℕ → List ℕ
units_of (high ∷ low ∷ bytes) = (0x100 * high + low) ∷ units_of bytes
units_of _ = []

-- the bytes are characters in UTF-16 (ISO/IEC 10646 section 9.4)
abbrev pub is_utf16 : List ℕ → Bool
is_utf16 bytes = length bytes % 2 == 0 && list_all is_some (utf16_chars (units_of bytes))

-- X.680 section 41: whether the bytes are characters of the string type with this tag number.
-- TeletexString, VideotexString, GraphicString and GeneralString take any. UniversalString isn't
-- read here.
abbrev pub are_characters : ℕ → List ℕ → Bool
are_characters number bytes =
    if number == 12 then is_utf8 bytes
    else (if number == 18 then is_numeric_string bytes
    else (if number == 19 then is_printable bytes
    else (if number == 22 then is_ia5 bytes
    else (if number == 26 then is_visible bytes
    else (if number == 30 then is_utf16 bytes else true)))))

-- the characters before what is none
abbrev pub before_none : List (Option ℕ) → List ℕ
before_none (Some code ∷ codes) = code ∷ before_none codes
before_none _ = []

abbrev pub utf16_codes : List ℕ → List ℕ
utf16_codes bytes = before_none (utf16_chars (units_of bytes))

-- X.690 section 8.23: the codes of the characters (ISO/IEC 10646) that are left
abbrev pub codes_of : Characters → List ℕ
codes_of (encodings.Utf8 text) = chars text.now
codes_of (encodings.Utf16 bytes) = utf16_codes bytes.now
codes_of (encodings.Latin1 bytes) = bytes.now

-- the codes of the characters of the string type with this tag number; none of a type that is no
-- string's, nor of bytes that aren't its characters
abbrev pub string_codes : ℕ → List ℕ → Option (List ℕ)
string_codes number bytes =
    if are_characters number bytes then
    (if number == 12 then Some (chars bytes)
    else (if (nat_le 18 number && nat_le number 22) || (nat_le 25 number && nat_le number 27)
    then Some bytes
    else (if number == 30 then Some (utf16_codes bytes) else None)))
    else None

-- a character as it is shown: itself if it prints in ASCII, `"` and `\` after a `\`, and another
-- one by its code in hexadecimal
abbrev pub escaped : ℕ → List ℕ
escaped code =
    if code == 0x22 || code == 0x5C then 0x5C ∷ code ∷ []
    else (if nat_le 0x20 code && nat_le code 0x7E then code ∷ []
    else 0x5C ∷ codes "u{" ++ (digits 16 true code ++ codes "}"))

-- characters as they are shown
abbrev pub escaped_all : List ℕ → List ℕ
escaped_all characters = flat_map escaped characters
