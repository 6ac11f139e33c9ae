-- What a line keeps of a text that is appended in pieces, and how it is shown.
use Rattle.std.proofs.Common.{◌≡◌, ℕ, ◌+◌, ◌≤◌, ◌<◌, List, [], ◌∷◌, ◌++◌, length, take, inl, inr, true, false}
use Rattle.std.proofs.Common.{append-nil, refl, sym, ◌∙◌, ap, arith, append_assoc, length-append, if◌then◌else◌}
use Rattle.std.proofs.Common.{take_all, take-take, length-take-le, length-take, codes, map, nat_le, replicate}
use Rattle.std.proofs.Math.Seq.{take-append-add}
use Rattle.std.proofs.lemmas.Bool.{cases_lt}
use Rattle.std.proofs.lemmas.Bool.Decides.{nat_tests}
use Rattle.std.proofs.lemmas.Grind.{flat_map-append, take_at_read}
use Rattle.std.proofs.lemmas.List.{same_lists, places, take-append-le, length-map, map-append}
use Rattle.std.specs.List.{list_all}
use Rattle.der_view.specs.Lines.{IsLine, is_printable, kept, printed, shown}

kept-short : (text : List ℕ) → length text ≤ 101 → kept text ≡ text
unfolding kept
kept-short text short = take_all 101 text short

-- as much of a text is kept as there is room for
pub kept-cut : (old text : List ℕ) (room : ℕ) → length old + room ≡ 101 → kept (old ++ text) ≡ old ++ take room text
unfolding kept
kept-cut old text room full = ap (λ n. take n (old ++ text)) (sym full) ∙ take-append-add old text room

pub ruleset kept_by_room = (kept-cut, length-take)

take-more : (n : ℕ) (text more : List ℕ) → take n (take n text ++ more) ≡ take n (text ++ more)
take-more n text more = same_lists _ _ (grind (arith, places)) (λ k d h. grind (arith, places))

-- two pieces are kept as one
pub kept-more : (text more : List ℕ) → kept (kept text ++ more) ≡ kept (text ++ more)
unfolding kept
kept-more text more = take-more 101 text more

-- what is kept is kept whole
pub kept-kept : (text : List ℕ) → kept (kept text) ≡ kept text
unfolding kept
kept-kept text = take-take 101 101 text (omega arith)

-- what is kept of the pieces of a text
pub ruleset kept_pieces = (kept-more, kept-kept, append_assoc, append-nil)

-- of the items of a slice
pub ruleset items = (kept_pieces, flat_map-append, take_at_read)

-- nothing that follows a full line is kept, and all of one that isn't longer
pub kept-full : (text more : List ℕ) → 100 < length text → length text ≤ 101 → kept (text ++ more) ≡ text
unfolding kept
kept-full text more full short = take-append-le 101 text more (omega arith) ∙ take_all 101 text short

pub kept-last : (text : List ℕ) → length text ≤ 101 → kept (text ++ []) ≡ text
kept-last text short = ap kept (append-nil text) ∙ kept-short text short

-- of the items of an iterator, until the line is full
pub ruleset until_full = (kept-more, append_assoc, kept-full, kept-last)

take-spaces : (m n : ℕ) (old : List ℕ) (y : ℕ) → take m (old ++ take n (replicate m y)) ≡ take m (old ++ replicate n y)
take-spaces m n old y = same_lists _ _ (grind (arith, places)) (λ k d h. grind (arith, places))

-- no more than 101 equal characters count
pub kept_spaces : (old : List ℕ) (n y : ℕ) → kept (old ++ take n (replicate 101 y)) ≡ kept (old ++ replicate n y)
unfolding kept
kept_spaces old n y = take-spaces 101 n old y

all_print : (text : List ℕ) → list_all is_printable (map printed text) ≡ true
all_print [] = refl
all_print (c ∷ text) = grind (arith, nat_tests, all_print text)

-- what is shown is a line
pub shown-line : (text line : List ℕ) → line ≡ shown text → IsLine line
unfolding shown
shown-line text line is =
    let cut : List ℕ = if nat_le (length text) 100 then text else take 97 text ++ codes "..." in
    rw is (record { short = omega (arith, length-map cut printed, cut-short); printable = all_print cut })
  where
    cut-short : length (if nat_le (length text) 100 then text else take 97 text ++ codes "...") ≤ 100
    cut-short = elim (cases_lt 100 (length text)) [
      | inl many ↦
          let cut : nat_le (length text) 100 ≡ false = grind (arith, nat_tests) in
          rw cut (omega (arith, length-append (take 97 text) (codes "..."), length-take-le 97 text (omega arith)))
      | inr few ↦ let whole : nat_le (length text) 100 ≡ true = grind (arith, nat_tests) in rw whole few
    ]

pub shown-short : (text : List ℕ) → length text ≤ 100 → shown text ≡ kept (map printed text)
unfolding shown
shown-short text few =
    let whole : nat_le (length text) 100 ≡ true = grind (arith, nat_tests) in
    rw whole (sym (kept-short (map printed text) (omega (arith, length-map text printed))))

pub shown-long : (text : List ℕ) → 100 < length text → shown text ≡ kept (map printed (take 97 text) ++ codes "...")
unfolding shown
shown-long text many =
    let cut : nat_le (length text) 100 ≡ false = grind (arith, nat_tests) in
    let front : List ℕ = map printed (take 97 text) in
    rw cut (map-append printed (take 97 text) (codes "...") ∙ sym (kept-short (front ++ codes "...") (omega (
      arith,
      length-append front (codes "..."),
      length-map (take 97 text) printed,
      length-take-le 97 text (omega arith),
    ))))

-- how a line is shown
pub ruleset shows = (kept_pieces, map-append, take_at_read, shown-short, shown-long)

-- seven pieces of a new line
pub kept_seven : (old a b c d e f g t u v w x y z : List ℕ) → old ≡ [] → t ≡ kept (old ++ a) → u ≡ kept (t ++ b)
    → v ≡ kept (u ++ c) → w ≡ kept (v ++ d) → x ≡ kept (w ++ e) → y ≡ kept (x ++ f) → z ≡ kept (y ++ g)
    → z ≡ kept (a ++ (b ++ (c ++ (d ++ (e ++ (f ++ g))))))
kept_seven old a b c d e f g t u v w x y z none et eu ev ew ex ey ez = grind (arith, kept_pieces)
