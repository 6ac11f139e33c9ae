-- The names of object identifiers: `names.txt` by all bytes of the contents but the last.
use Rattle.std.specs.Prelude.{ℕ, ◌==◌, ◌-◌, ◌+◌, ◌*◌, ◌^◌, ◌||◌, if◌then◌else◌, List, [], ◌∷◌}
use Rattle.std.specs.Prelude.{length, nat_lt, take, drop}
use Rattle.std.specs.Prelude.{Option, Some, None, slice_get, slice_index_or}
use Rattle.std.specs.List.{slice_split}
use Rattle.std.specs.Option.{option_and_then}
use Rattle.sec1_der.specs.Elements.{number_of}
use Rattle.der_view.specs.declared.names.table.TheConstants as tables

-- the names in the row with this number; none if there is no such row
unfoldable pub names_of : List (ℕ × ℕ) → List ℕ → ℕ → List ℕ
names_of [] names number = []
names_of (row ∷ rows) names number =
    if row.0 == number then take row.1 names else names_of rows (drop row.1 names) number

-- the word of this number: a comma is after each
abbrev pub word : List ℕ → ℕ → Option (List ℕ)
word words number = slice_get (slice_split (λ byte. byte == 0x2C) words) number

-- the name of the identifier with this content, which has at most 12 bytes: of those in the row of
-- all but its last byte the one whose number is that byte, if it isn't empty
unfoldable pub name_in : List (ℕ × ℕ) → List ℕ → List ℕ → Option (List ℕ)
name_in rows names content =
    let front = take (length content - 1) content in
    if length content == 0 || nat_lt 12 (length content) then None
    else option_and_then (λ name. if length name == 0 then None else Some name)
    (word (names_of rows names (128 * 256 ^ length front + number_of front))
    (slice_index_or (drop (length content - 1) content) 0 0))

unfoldable pub name_by : List ℕ → Option (List ℕ)
name_by content = name_in tables.ROWS tables.NAMES content
