-- The lines of rows, what each is of, and their text.
use Rattle.std.specs.Prelude.{◌≡◌, ℕ, zero, suc, ◌+◌, ◌*◌, ◌/◌, ◌&&◌, ◌==◌, not, nat_lt, Bool}
use Rattle.std.specs.Prelude.{if◌then◌else◌, List, [], ◌∷◌, ◌++◌, length, take, drop, map, codes}
use Rattle.std.specs.Prelude.{Option, Some, None}
use Rattle.std.specs.List.{flat_map}
use Rattle.der_view.specs.Facts.{RowView, is_told, row_of}
use Rattle.der_view.specs.Grammar.{Component}
use Rattle.der_view.specs.Lines.{kept, shown}
use Rattle.der_view.specs.Marks.{mark_words}
use Rattle.der_view.specs.RowLines.{hex_words, is_said, row_line, spaces}
use Rattle.der_view.specs.Rows.{Row}
use Rattle.der_view.specs.declared.marks.Mark.{Mark}
use Rattle.der_view.specs.declared.output.PictureLine.{PictureLine}
use Rattle.der_view.specs.declared.output.TheConstants.{CONTENT, MARK, ROW}
use Rattle.der_view.specs.declared.plan.Plan.{Plan}
use Rattle.der_view.specs.declared.printer.Options.{Options}

-- whether all is drawn, in rows
abbrev pub are_plain : Options → Bool
are_plain options = not options.json && (options.levels == 0 && options.offset == 0)

-- what a line is of, and its text
abbrev pub Told : Type 0
Told = PictureLine × List ℕ

-- a line of this kind that has no numbers
abbrev pub line_of : ℕ → PictureLine
line_of kind =
    record { kind = kind; offset = 0; header_len = 0; content_len = 0; depth = 0; hidden = 0 }

-- the line of a row, hidden unless all of its content is shown, or known to be public
abbrev pub line_of_row : RowView → PictureLine
line_of_row row = record {
  kind = ROW;
  offset = row.place.offset;
  header_len = length row.head;
  content_len = row.own_len;
  depth = row.place.depth;
  hidden = if not row.place.is_public && nat_lt (length row.value) row.own_len then 1 else 0;
}

-- a line as it is shown
unfoldable pub told_line : PictureLine → List ℕ → List Told
told_line of line = (of, shown line) ∷ []

-- lines as they are shown
abbrev pub as_shown : List Told → List Told
as_shown lines = flat_map (λ line. told_line line.0 line.1) lines

-- lines and their ends
abbrev pub lines_text : List Told → List ℕ
lines_text lines = flat_map (λ line. line.1 ++ codes "\n") lines

-- the first lines of a content, so many, of 16 bytes each
abbrev pub content_lines : List ℕ → ℕ → List Told
content_lines bytes zero = []
content_lines bytes (suc count) =
    content_lines bytes count
    ++ (line_of CONTENT, kept (spaces 25 ++ hex_words (take 16 (drop (count * 16) bytes)))) ∷ []

-- the lines of marks
abbrev pub mark_lines : List (Option Mark) → List Component → List Told
mark_lines [] expected = []
mark_lines (None ∷ others) expected = mark_lines others expected
mark_lines (Some mark ∷ others) expected =
    (line_of MARK, kept (codes "     ^ " ++ mark_words mark expected)) ∷ mark_lines others expected

-- the lines of a row, unless it is of no bytes and has no mark: its own, those of its content, if
-- that one doesn't say all of it, and its marks
unfoldable pub told_lines : RowView → List Told
told_lines row =
    if is_told row
    then (line_of_row row, row_line row)
    ∷ ((if is_said row (length (row_line row)) then []
    else content_lines row.content ((length row.content + 15) / 16))
    ++ mark_lines row.marks row.expected) else []

-- the lines of rows by a plan, with all contents or without
abbrev pub told_of : Plan → Bool → List Row → List Told
told_of plan all rows = flat_map (λ row. told_lines (row_of plan all row)) rows

-- as they are shown
unfoldable pub rows_lines : Plan → Bool → List Row → List (List ℕ)
rows_lines plan all rows = map (λ line. shown line.1) (told_of plan all rows)

-- their text
abbrev pub rows_text : Plan → Bool → List Row → List ℕ
rows_text plan all rows = lines_text (as_shown (told_of plan all rows))

-- where no write has failed, these lines were written, and none failed before
abbrev pub HasWritten : {W E : Type 0} → (W → W → List Told → Type 0) → Option E → W → Option E
    → W → List Told → Type 0
HasWritten appends before old after new lines =
    after ≡ None → (before ≡ None) × appends old new lines
