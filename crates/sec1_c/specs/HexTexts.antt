-- The hexadecimal texts of points.
use Rattle.std.specs.Prelude.{◌==◌, ℕ, List, if◌then◌else◌}
use Rattle.hex.specs.Hex.{encode_with, lower_digits, upper_digits}
use Rattle.sec1.specs.HexTexts.{IsHexOf}
use Rattle.sec1.specs.Points.{Point, IsPoint, encoding}

-- the sixteen digits, with the letters A to F; if the number isn't 0, with the letters a to f
abbrev pub digits_of_case : ℕ → List ℕ
digits_of_case lower_case = if lower_case == 0 then upper_digits else lower_digits

-- these bytes in hexadecimal, two such digits for each
abbrev pub hex_text : ℕ → List ℕ → List ℕ
hex_text lower_case bytes = encode_with (digits_of_case lower_case) bytes

-- the text is a point's encoding in hexadecimal, with letters of one case
abbrev pub IsPointText : ℕ → List ℕ → Type 0
IsPointText n text = (p : Point) × IsPoint n p × IsHexOf text (encoding n p)
