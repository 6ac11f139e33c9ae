-- Hexadecimal texts of bytes.
use Rattle.std.specs.Prelude.{◌≡◌, ℕ, List, ◌⊎◌}
use Rattle.hex.specs.Hex.{encode_upper, encode_lower}

-- two digits for each byte, the letters all upper case or all lower case
abbrev pub IsHexOf : List ℕ → List ℕ → Type 0
IsHexOf text bytes = (text ≡ encode_upper bytes) ⊎ (text ≡ encode_lower bytes)
