-- What is written of sources, in pieces.
use Rattle.std.proofs.Common.{◌≡◌, ℕ, Bool, true, false, List, [], ◌∷◌, ◌++◌, Option, Some, None, Result, Ok, Err, OnOk}
use Rattle.std.proofs.Common.{refl, sym, ap, ◌∙◌, ◌+◌, ◌≤◌, append-nil, arith, length, option_map, take}
use Rattle.std.proofs.Math.Bool.{or-false}
use Rattle.std.proofs.lemmas.List.{length-take-le, places, same_lists, take-append-le}
use Rattle.std.proofs.lemmas.Option.{same_Some}
use borrow.Rule.Slice.PartMut.{put_mid}
use Rattle.der_view.specs.Drawings.{bytes_lines, content_key, decoded_in, drawn_lines, found_of, has_key, heading_by}
use Rattle.der_view.specs.Drawings.{heading_lines, is_key_of, known_of, picture_lines, some_key, source_key}
use Rattle.der_view.specs.Drawings.{source_lines}
use Rattle.der_view.specs.Lines.{kept, shown}
use Rattle.der_view.specs.Parts.{Content, IsIn, content_of, decoded_len, found_with}
use Rattle.der_view.specs.Pictures.{picture, plan_of}
use Rattle.der_view.specs.Printing.{Told, told_line}
use Rattle.der_view.specs.Said.{first_words, said_lines, said_of}
use Rattle.der_view.specs.Sources.{Der, SourceView, has_begin, is_der, is_text, sources_by, sources_of, wide_note}
use Rattle.der_view.specs.declared.output.PictureLine.{PictureLine}
use Rattle.der_view.specs.declared.sentences.Reading.TheVariants as readings
use Rattle.der_view.specs.declared.sentences.Sentence.{Sentence}
use Rattle.der_view.specs.declared.text.Found.{Found}
use Rattle.der_view.specs.declared.text.Found.TheVariants as founds

-- what is found is that of its content
found_is : (found : Found) (memory : List ℕ) (content : Content) → IsIn memory found content → found_of content ≡ found
found_is founds.Itself memory content (is, fits) = ap (λ c. found_of c) (sym is)
found_is (founds.Decoded encoding flaw len) memory content (is, fits) =
    ap (λ c. found_of c) (sym is)
    ∙ ap (λ (n : ℕ). founds.Decoded encoding flaw n) (length-take-le len memory fits)
found_is (founds.Said note) memory content (is, fits) = ap (λ c. found_of c) (sym is)

-- the picture of a source in which this is found
pub drawn_is : (all : Bool) (before : ℕ) (source : SourceView) (found : Found) (memory : List ℕ)
    → IsIn memory found (content_of source) → (source_lines all before source
    ≡ heading_lines before source found ++ drawn_lines all source (found_with found memory))
    × (source_key source ≡ content_key source (found_with found memory))
drawn_is all before source found memory is = (
  ap (λ (f : Found). heading_lines before source f ++ drawn_lines all source (content_of source))
      (found_is found memory (content_of source) is)
      ∙ ap (λ (c : Content). heading_lines before source found ++ drawn_lines all source c) (sym is.0),
  ap (λ (c : Content). content_key source c) (sym is.0),
)

-- what was decoded is in the memory
pub decoded_is : (found : Found) (memory : List ℕ) (content : Content) → IsIn memory found content
    → take (decoded_len found) memory ≡ decoded_in content
decoded_is founds.Itself memory content (is, fits) = ap decoded_in is
decoded_is (founds.Decoded encoding flaw len) memory content (is, fits) = ap decoded_in is
decoded_is (founds.Said note) memory content (is, fits) = ap decoded_in is

-- bytes, and those that were written after them
pub part_written : (used size more : ℕ) (bytes new : List ℕ) → used ≤ length bytes → more ≤ length new
    → (take (used + more) (put_mid used size bytes new) ≡ take used bytes ++ take more new)
    × (used + more ≤ length (put_mid used size bytes new))
part_written used size more bytes new within fits =
    (same_lists _ _ (grind (arith, places)) (λ k d h. grind (arith, places)), grind (arith, places))

-- all that was decoded, with other memory after it
pub decoded_all : (used : ℕ) (all bytes digits : List ℕ) → take used bytes ++ [] ≡ all → used ≤ length bytes
    → take (length all) (bytes ++ digits) ≡ all
decoded_all used all bytes digits is within =
    let same : take used bytes ≡ all = sym (append-nil (take used bytes)) ∙ is in
    let len : length all ≡ used = sym (ap length same) ∙ length-take-le used bytes within in
    ap (λ (n : ℕ). take n (bytes ++ digits)) len ∙ (take-append-le used bytes digits within ∙ same)

-- the line of a heading that is kept
pub heading_is : (of : PictureLine) (heading : Option (List ℕ)) (line : List ℕ) → Some line ≡ option_map kept heading
    → heading_by of heading ≡ (of, shown line) ∷ []
unfolding told_line
heading_is of None line is = cc
heading_is of (Some heading) line is =
    ap (λ (t : List ℕ). (of, shown t) ∷ []) (sym (same_Some line (kept heading) is))

pub no_heading : (of : PictureLine) (heading : Option (List ℕ)) → None ≡ option_map kept heading
    → heading_by of heading ≡ []
no_heading of None is = refl
no_heading of (Some heading) is = cc

-- a key is drawn as DER
key_drawn : (a : List ℕ) → (plan_of a).is_whole ≡ true → picture_lines false a ≡ bytes_lines false readings.Der a ++ []
unfolding picture_lines sources_of is_der
key_drawn a whole = rw whole refl

key_text_is : (a b : List ℕ) → plan_of a ≡ plan_of b → picture false a ≡ picture false b → is_key_of a ≡ true
    → is_key_of b ≡ true → bytes_lines false readings.Der a ≡ bytes_lines false readings.Der b
unfolding bytes_lines known_of picture said_lines said_of first_words
key_text_is a b plan rows one two = let same = rw plan at rows in rw (one, two, plan, same) refl

-- keys with the same plan and the same rows have the same picture
pub keys_drawn : (a b : List ℕ) → plan_of a ≡ plan_of b → picture false a ≡ picture false b
    → (plan_of a).is_whole ≡ true → is_key_of a ≡ true → is_key_of b ≡ true
    → picture_lines false a ≡ picture_lines false b
keys_drawn a b plan rows whole one two =
    key_drawn a whole
    ∙ (ap (λ (l : List Told). l ++ []) (key_text_is a b plan rows one two) ∙ sym (key_drawn b (rw plan at whole)))

-- bytes that are all of their form are the one source
pub one_source : (a : List ℕ) → (plan_of a).is_whole ≡ true → sources_of a ≡ Der a ∷ []
unfolding sources_of is_der
one_source a whole = rw whole refl

never : (b : Bool) → (b ≡ true → false ≡ true) → false ≡ b
never true absurd = absurd refl
never false absurd = refl

-- what of bytes that are no text, and have no block in them, is found to be a key: all of them
found_by : (der : Bool) (wide : Option Sentence) (a : List ℕ) → (is_key_of a ≡ true → der ≡ true)
    → some_key (sources_by der false false wide a) ≡ is_key_of a
found_by true wide a known = or-false (is_key_of a)
found_by false (Some note) a known = never (is_key_of a) known
found_by false None a known = or-false (is_key_of a)

der_whole : (a : List ℕ) → (plan_of a).is_whole ≡ true → is_der a ≡ true
unfolding is_der
der_whole a whole = rw whole refl

pub bytes_found : (a : List ℕ) → (is_key_of a ≡ true → (plan_of a).is_whole ≡ true)
    → is_text a ≡ false → has_begin a ≡ false → has_key a ≡ is_key_of a
unfolding has_key sources_of
bytes_found a known text begin = rw (text, begin) (found_by (is_der a) (wide_note a) a (λ is. der_whole a (known is)))

-- what is written in pieces, the last of which may fail
module _ {W : Type 0} (Writes : W → W → List Told → Type 0)
    (joined : (a b c : W) (s t : List Told) → Writes a b s → Writes b c t → Writes a c (s ++ t))
  where
    pub then_on : {A E : Type 0} (a b c : W) (first second whole : List Told) (r : Result A E) → whole ≡ first ++ second
        → Writes a b first → OnOk r (Writes b c second) → OnOk r (Writes a c whole)
    then_on a b c first second whole (Ok x) is one two = rw is (joined a b c first second one two)
    then_on a b c first second whole (Err e) is one two = two
