-- The bytes that rows are of.
use Rattle.std.specs.Prelude.{◌≡◌, ℕ, ◌+◌, List, [], ◌∷◌, ◌++◌, true}
use Rattle.std.specs.List.{fold}
use Rattle.std.proofs.Common.{ap, sym, ◌∙◌}
use Rattle.std.proofs.lemmas.Grind.{fold-append}
use Rattle.der_view.specs.Rows.{Element, EndOfContents, NotDrawn, Row, own_len}

-- the number of bytes that a row is of: a header, and what has no other row of a content
abbrev pub row_len : Row → ℕ
row_len (Element place element) = element.header.len + own_len element
row_len (EndOfContents place) = 2
row_len (NotDrawn place expected len content) = len

abbrev pub rows_len : List Row → ℕ
rows_len [] = 0
rows_len (row ∷ rows) = row_len row + rows_len rows

abbrev pub offset_of : Row → ℕ
offset_of (Element place element) = place.offset
offset_of (EndOfContents place) = place.offset
offset_of (NotDrawn place expected len content) = place.offset

-- the first row begins here, and each other one where those before it end
abbrev pub AreAt : ℕ → List Row → Type 0
AreAt offset [] = Unit {0}
AreAt offset (row ∷ rows) = (offset_of row ≡ offset) × AreAt (offset + row_len row) rows

-- each element is one of the components which could come there, and all bytes are drawn
abbrev pub AllFollow : List Row → Type 0
AllFollow [] = Unit {0}
AllFollow (Element place element ∷ rows) = (element.follows ≡ true) × AllFollow rows
AllFollow (EndOfContents place ∷ rows) = AllFollow rows
AllFollow (NotDrawn place expected len content ∷ rows) = ⊥

-- a fold over rows goes on where that over the rows before them ended
pub fold-join : {A : Type 0} (next : A → Row → A) (a b c : A) (first second : List Row)
    → b ≡ fold next a first → c ≡ fold next b second → c ≡ fold next a (first ++ second)
fold-join {A} next a b c first second one two =
    two ∙ (ap (λ (x : A). fold next x second) one ∙ sym (fold-append next a first second))
