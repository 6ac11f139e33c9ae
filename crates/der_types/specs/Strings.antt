-- The contents of the restricted character strings, X.680 section 41. That of a UTF8String is any
-- UTF-8, which std's `is_utf8` tests; each other type takes the characters of its own.
use Rattle.std.specs.Prelude.{◌==◌, ℕ, nat_le, Bool, ◌&&◌, ◌||◌, List, codes}
use Rattle.std.specs.Char.{is_ascii, is_ascii_digit, is_ascii_alphanumeric}
use Rattle.std.specs.List.{list_all, list_any}

-- X.680 section 41.2, table 9: the digits 0 to 9 and the space (20).
abbrev pub is_numeric_character : ℕ → Bool
is_numeric_character character = is_ascii_digit character || character == 0x20

abbrev pub is_numeric_string : List ℕ → Bool
is_numeric_string bytes = list_all is_numeric_character bytes

-- X.680 section 41.4, table 10: the letters A to Z and a to z, the digits 0 to 9, and these: the
-- space and eleven more.
abbrev pub is_printable_character : ℕ → Bool
is_printable_character character =
    is_ascii_alphanumeric character || list_any (λ other. other == character) (codes " '()+,-./:=?")

abbrev pub is_printable : List ℕ → Bool
is_printable bytes = list_all is_printable_character bytes

-- X.680 section 41, table 8: the 128 characters of the International Alphabet 5, of which some
-- control a terminal.
abbrev pub is_ia5 : List ℕ → Bool
is_ia5 bytes = list_all is_ascii bytes

-- X.680 section 41, table 8: the space (20) and the characters of the International Alphabet 5 that
-- print, 21 to 7E.
abbrev pub is_visible_character : ℕ → Bool
is_visible_character character = nat_le 0x20 character && nat_le character 0x7E

abbrev pub is_visible : List ℕ → Bool
is_visible bytes = list_all is_visible_character bytes
