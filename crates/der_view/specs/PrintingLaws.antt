-- What was written of rows, one after the other.
use Rattle.std.specs.Prelude.{◌≡◌, ◌++◌, List, ℕ, Option, codes, false}
use Rattle.std.specs.Io.KnownBytes.{Appends}
use Rattle.std.proofs.lemmas.Grind.{flat_map-append}
use Rattle.der_view.specs.Printing.{HasWritten, Told, as_shown, lines_text, told_of}
use Rattle.der_view.specs.Rows.{Row}
use Rattle.der_view.specs.declared.printer.Style.{Style}

-- the text of lines, and of more
pub text_joined : (a b : Option (List ℕ)) (first second : List Told)
    → Appends a b (lines_text first ++ lines_text second)
    → Appends a b (lines_text (first ++ second))
text_joined a b first second both =
    rw (flat_map-append (λ (line : Told). line.1 ++ codes "\n") first second) both

-- all rows are written as lines
abbrev pub IsPlain : Style → Type 0
IsPlain style = (style.json ≡ false) × (style.levels ≡ 0)

-- the lines of rows, and of more
pub has_written_both : {W E : Type 0} (appends : W → W → List Told → Type 0)
    (joined : (a b c : W) (s t : List Told) → appends a b s → appends b c t → appends a c (s ++ t))
    {style other : Style} (first second : List Row) {d e f : Option E} {a b c : W}
    → other ≡ style → IsPlain style
    → HasWritten appends d a e b (as_shown (told_of style.plan style.all first))
    → (IsPlain other → HasWritten appends e b f c (as_shown (told_of other.plan other.all second)))
    → HasWritten appends d a f c (as_shown (told_of style.plan style.all (first ++ second)))
has_written_both appends joined first second same plain one two none =
    let late = rw same at (two (rw same plain) none) in
    let early = one late.0 in
    (early.0, rw (flat_map-append, flat_map-append) (joined _ _ _ _ _ early.1 late.1))
