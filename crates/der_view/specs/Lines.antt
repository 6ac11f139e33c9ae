-- A line of a picture: as much of a text as tells how it is shown.
use Rattle.std.specs.Prelude.{◌≡◌, ◌≤◌, ℕ, List, ◌++◌, ◌&&◌, length, take, codes, map, nat_le}
use Rattle.std.specs.Prelude.{if◌then◌else◌, Bool, true}
use Rattle.std.specs.List.{list_all}

-- what a line keeps of a text: one character more than it shows tells that the text is longer
unfoldable pub kept : List ℕ → List ℕ
kept text = take 101 text

-- whether a character prints in ASCII
abbrev pub is_printable : ℕ → Bool
is_printable character = nat_le 0x20 character && nat_le character 0x7E

-- a character that prints, or else a question mark
abbrev pub printed : ℕ → ℕ
printed character = if is_printable character then character else 0x3F

-- how a text is shown: whole, or its first 97 characters and three full stops
unfoldable pub shown : List ℕ → List ℕ
shown text = map printed (if nat_le (length text) 100 then text else take 97 text ++ codes "...")

-- a text is what a line may be: at most 100 characters that print in ASCII
pub record IsLine (text : List ℕ) : Type 0 where
  pub short : length text ≤ 100
  pub printable : list_all is_printable text ≡ true
