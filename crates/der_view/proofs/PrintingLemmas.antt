-- What is written of a row, and what lines are.
use Rattle.std.proofs.Common.{◌≡◌, refl, List, [], Bool, ℕ, ◌+◌, ◌*◌, ◌++◌, add-one, append-nil, drop, get_or, take}
use Rattle.std.proofs.lemmas.Grind.{flat_map-append}
use Rattle.std.proofs.lemmas.List.Elements.{All-from_get_or, All-map}
use Rattle.std.specs.List.{All}
use Rattle.der_view.proofs.LineLemmas.{shown-line}
use Rattle.der_view.specs.Lines.{IsLine, kept, shown}
use Rattle.der_view.specs.Printing.{Told, as_shown, content_lines, line_of, rows_lines, told_line, told_of}
use Rattle.der_view.specs.RowLines.{hex_words, spaces}
use Rattle.der_view.specs.Rows.{Row}
use Rattle.der_view.specs.declared.output.TheConstants.{CONTENT}
use Rattle.der_view.specs.declared.plan.Plan.{Plan}

-- one more line of a content was written
pub content_written : {W : Type 0} (appends : W → W → List Told → Type 0) (joined : (a b c : W) (s t : List Told)
    → appends a b s → appends b c t → appends a c (s ++ t)) (a b c : W) (bytes line : List ℕ) (count : ℕ)
    → line ≡ kept (spaces 25 ++ hex_words (take 16 (drop (count * 16) bytes)))
    → appends a b (as_shown (content_lines bytes count)) → appends b c (told_line (line_of CONTENT) line)
    → appends a c (as_shown (content_lines bytes (count + 1)))
content_written appends joined a b c bytes line count is done next =
    rw (add-one count, flat_map-append, append-nil, ← is) (joined a b c _ _ done next)

-- all lines of rows
pub rows_are : (plan : Plan) (all : Bool) (rows : List Row) → All IsLine (rows_lines plan all rows)
unfolding rows_lines
rows_are plan all rows =
    let lines : List Told = told_of plan all rows in
    All-map IsLine (λ line. shown line.1) lines
    (All-from_get_or (λ line. IsLine (shown line.1)) lines (line_of CONTENT, [])
    (λ i below. shown-line (get_or lines i (line_of CONTENT, [])).1 _ refl))
