-- The line of a row.
use Rattle.std.specs.Prelude.{ℕ, ◌+◌, ◌-◌, ◌*◌, ◌&&◌, max, min, nat_lt, nat_le, Bool, false}
use Rattle.std.specs.Prelude.{if◌then◌else◌, List, [], ◌∷◌, ◌++◌, length, codes, replicate}
use Rattle.std.specs.Prelude.{Option, Some, None, unwrap_or}
use Rattle.std.specs.Fmt.{decimal}
use Rattle.std.specs.List.{flat_map}
use Rattle.hex.specs.Hex.{encode_upper}
use Rattle.der_view.specs.Facts.{RowView}
use Rattle.der_view.specs.Headers.{is_type}
use Rattle.der_view.specs.Lines.{kept}
use Rattle.der_view.specs.Marks.{bytes_text}
use Rattle.der_view.specs.Types.{type_name}
use Rattle.der_view.specs.Values.{ValueView, Count, Bits, number_of_text, value_by, value_text}
use Rattle.der_view.specs.Words.{name_text}
use Rattle.der_view.specs.declared.facts.Kind.{Kind}
use Rattle.der_view.specs.declared.facts.Kind.TheVariants as kinds
use Rattle.der_view.specs.declared.facts.Point.{Point}
use Rattle.der_view.specs.declared.facts.Point.TheVariants as points
use Rattle.der_view.specs.declared.facts.Shown.{Shown}
use Rattle.der_view.specs.declared.facts.Shown.TheVariants as shows
use Rattle.der_view.specs.declared.grammar.name.Name.{Name}

-- this many spaces
abbrev pub spaces : ℕ → List ℕ
spaces count = replicate count 0x20

-- a text after as many spaces as it has fewer characters than this
abbrev pub padded : ℕ → List ℕ → List ℕ
padded width text = spaces (width - length text) ++ text

-- each byte in two digits, after a space
abbrev pub hex_words : List ℕ → List ℕ
hex_words bytes = flat_map (λ byte. codes " " ++ encode_upper (byte ∷ [])) bytes

-- a number, or else a question mark
abbrev pub number_or_mark : Option ℕ → List ℕ
number_or_mark (Some len) = decimal len
number_or_mark None = codes "?"

-- the offset, at least four characters wide, the bytes of the header, and the length, which ends 20
-- columns after the offset, or one after a longer header
unfoldable pub columns : RowView → List ℕ
columns row =
    padded 4 (decimal row.place.offset)
    ++ (hex_words row.head ++ (codes " "
    ++ (padded (19 - 3 * length row.head) (number_or_mark row.announced) ++ codes "  ")))

-- two spaces for each level, at most 16; deeper ones are counted
abbrev pub indent : ℕ → List ℕ
indent depth =
    spaces (min depth 16 * 2) ++ (if nat_lt 16 depth then decimal depth ++ codes ": " else [])

-- the number of bytes of a content; of a BIT STRING those after its first one
abbrev pub len_of : Kind → ℕ → ℕ
len_of (kinds.Element tag) len = if is_type tag 3 then len - 1 else len
len_of _ len = len

-- the number of bytes that is said of a content
abbrev pub count_of : RowView → ℕ
count_of row = len_of row.kind (unwrap_or row.announced row.len)

-- the value of a content that is shown and all there
abbrev pub kind_value : Shown → Kind → List ℕ → Option ValueView
kind_value shows.Value (kinds.Element tag) content = Some (value_by tag content)
kind_value _ _ content = None

abbrev pub row_value : RowView → Option ValueView
row_value row = kind_value row.shown row.kind row.value

-- a line of this length has all of the content: it is more than a number of bytes
abbrev pub is_said_by : Option ValueView → ℕ → Bool
is_said_by None len = false
is_said_by (Some (Count count)) len = false
is_said_by (Some (Bits count unused)) len = false
is_said_by (Some value) len = nat_le len 100

abbrev pub is_said : RowView → ℕ → Bool
is_said row len = is_said_by (row_value row) len

-- the value of a content, or else what is shown of it: the number of its bytes; that of a BIT
-- STRING's unused bits too, if it can have as many
abbrev pub shown_text : Option ValueView → Shown → ℕ → List ℕ
shown_text (Some value) shown count = value_text value
shown_text None shows.Nothing count = []
shown_text None (shows.Unused unused) count =
    number_of_text count (codes " byte")
    ++ (if nat_lt 0 count && nat_lt unused 8 then number_of_text unused (codes " unused bit")
    else [])
shown_text None _ count = number_of_text count (codes " byte")

-- the type of a row, and its value or the number of its bytes
abbrev pub label_by : Kind → ℕ → List ℕ → List ℕ
label_by (kinds.Element tag) len text = type_name tag ++ text
label_by kinds.EndOfContents len text = codes "end-of-contents"
label_by kinds.NotDrawn len text = bytes_text len ++ codes " not drawn"

unfoldable pub label : RowView → List ℕ
label row = label_by row.kind row.len (shown_text (row_value row) row.shown (count_of row))

-- SEC1 v2.0 section 2.3.3: the form and the size of a point
abbrev pub point_text : Point → List ℕ
point_text points.Infinity = codes "the point at infinity"
point_text points.None = codes "no point"
point_text (points.Compressed len) = codes "compressed, " ++ bytes_text len
point_text (points.Uncompressed len) = codes "uncompressed, 2 x " ++ bytes_text len
point_text (points.Hybrid len) = codes "hybrid, 2 x " ++ bytes_text len
point_text (points.Compact len) = codes "compact, " ++ bytes_text len

-- the last column: the form of a point, or the name, and whether the content isn't shown
abbrev pub secret_note : Bool → List ℕ
secret_note secret = if secret then codes ", not shown" else []

abbrev pub note_by : Shown → Name → Bool → List ℕ
note_by (shows.Point point) name secret = point_text point
note_by (shows.Unused unused) name secret = []
note_by _ name secret = name_text name ++ secret_note secret

-- a text with a note up to this column, if there is a note and both fit into a line
abbrev pub with_note : ℕ → List ℕ → List ℕ → List ℕ
with_note column text note =
    let between = max 2 (column - length text) in
    if nat_lt 0 (length note) && nat_le (length text + (between + length note)) 100
    then text ++ (spaces between ++ note) else text

-- the line of a row
abbrev pub row_line : RowView → List ℕ
row_line row =
    let column = length (kept (columns row)) + 29 in
    let text = kept (columns row ++ (indent row.place.depth ++ label row)) in
    kept (with_note column text (kept (note_by row.shown row.name row.secret)))
