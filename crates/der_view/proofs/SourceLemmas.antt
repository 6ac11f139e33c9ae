-- The texts of an input's sources are together no longer than what may be text in it.
use Rattle.std.proofs.Common.{◌≡◌, ℕ, ◌+◌, ◌<◌, ◌≤◌, ◌&&◌, ◌||◌, not, Bool, true, false, cond, List, [], ◌∷◌, length}
use Rattle.std.proofs.Common.{take, drop, Option, Some, None, refl, ap, arith, inl, inr, length-drop, length-take}
use Rattle.std.proofs.Common.{bytes_eq}
use Rattle.std.proofs.lemmas.Bool.{cases_Bool}
use Rattle.std.proofs.lemmas.Slice.Eq.{bytes_eq-Decides}
use Rattle.std.specs.Option.{is_none}
use Rattle.der_view.specs.Blocks.{BlockView, before, begin_label, block_of, blocks_in, dashes, ends_line, has, inside}
use Rattle.der_view.specs.Blocks.{is_at}
use Rattle.der_view.specs.Blocks.{is_in, is_of_private_key, len_before, line_at, line_number, onward, split_headers}
use Rattle.der_view.specs.Blocks.{with_block}
use Rattle.der_view.specs.Sources.{Der, SourceView, Text, blocks_or, has_begin, is_der, is_text, or_source, pem_sources}
use Rattle.der_view.specs.Sources.{source_len, sources_by, sources_of, text_len, total_len, wide_note, without_mark}
use Rattle.der_view.specs.declared.sentences.Sentence.{Sentence}
use Rattle.der_view.specs.declared.text.pem.Sought.TheVariants as soughts

pub or_front : (other : Option SourceView) (source : SourceView) (rest : List SourceView)
    → or_source other (source ∷ rest) ≡ source ∷ rest
or_front None source rest = refl
or_front (Some other) source rest = refl

-- a body is no longer than what it is in, and that shorter than what is before the next boundary
body_within : (text : List ℕ) → length (split_headers text).1 ≤ length text
body_within text =
    let headers : List ℕ = before (is_at soughts.Blank) true text in
    let rest : List ℕ = onward (is_at soughts.Blank) true text in
    let body : List ℕ = onward (line_at []) false rest in
    elim (is_in (is_at soughts.Blank) true text && has headers 0x3A)
    as (λ (v : Bool). length (cond {A = List ℕ × List ℕ} v (headers, body) ([], text)).1 ≤ length text) [
      | true ↦ omega (
        arith,
        length-drop (len_before (line_at []) false rest) rest,
        length-drop (len_before (is_at soughts.Blank) true text) text,
      )
      | false ↦ omega arith
    ]

block_within : (line : ℕ) (label text : List ℕ) → 0 < length text
    → length (block_of line label text).body + 1 ≤ len_before (line_at dashes) false text
block_within line label [] some = absurd (omega arith)
block_within line label (byte ∷ text) some =
    let lines : List ℕ = before (line_at dashes) (ends_line byte text) text in
    omega (
      arith,
      body_within (inside (byte ∷ text)),
      length-drop (len_before (line_at []) (ends_line byte lines) lines) lines,
      length-take (len_before (line_at dashes) (ends_line byte text) text) text,
    )

-- a block begins with a boundary, which isn't short
begin_bounds : (starts : Bool) (text label : List ℕ) → begin_label starts text ≡ Some label
    → (line_at dashes starts text ≡ true) × (5 ≤ length text)
begin_bounds false text label is = cc
begin_bounds true text label is = elim (cases_Bool (bytes_eq (take 5 text) dashes)) [
  | inl passes ↦
      let same : take 5 text ≡ dashes = (bytes_eq-Decides (take 5 text) dashes).0 passes in
      (rw same refl, omega (arith, length-take 5 text, ap length same))
  | inr fails ↦ cc (rw fails at is)
]

-- the bodies of blocks
abbrev bodies_len : List BlockView → ℕ
bodies_len [] = 0
bodies_len (block ∷ blocks) = length block.body + 2 + bodies_len blocks

bodies_by : (label : Option (List ℕ)) (starts : Bool) (line byte : ℕ) (text : List ℕ) (blocks : List BlockView)
    → begin_label starts (byte ∷ text) ≡ label
    → bodies_len blocks + len_before (line_at dashes) (is_none label && ends_line byte text) text ≤ length text
    → bodies_len (with_block label line text blocks) + len_before (line_at dashes) starts (byte ∷ text)
    ≤ length (byte ∷ text)
bodies_by (Some label) starts line byte text blocks is fits =
    let (bounds, long) = begin_bounds starts (byte ∷ text) label is in
    rw bounds (omega (arith, block_within line label text (omega arith)))
bodies_by None starts line byte text blocks is fits = elim (cases_Bool (line_at dashes starts (byte ∷ text))) [
  | inl takes ↦ rw takes (omega arith)
  | inr others ↦ rw others (omega arith)
]

bodies_within : (starts : Bool) (number : ℕ) (text : List ℕ)
    → bodies_len (blocks_in starts number text) + len_before (line_at dashes) starts text ≤ length text
bodies_within starts number [] = omega arith
bodies_within starts number (byte ∷ text) =
    let label = begin_label starts (byte ∷ text) in
    let line = line_number starts number in
    let ends = is_none label && ends_line byte text in
    bodies_by label starts line byte text (blocks_in ends line text) refl (bodies_within ends line text)

of_blocks : (reads : Bool) (blocks : List BlockView) → total_len (pem_sources reads blocks) ≡ bodies_len blocks
of_blocks reads [] = refl
of_blocks reads (block ∷ blocks) =
    ap (λ (n : ℕ). length block.body + 2 + n) (of_blocks (reads && not (is_of_private_key block)) blocks)

blocks_or_within : (most : ℕ) (other : SourceView) (text : List ℕ) → length text ≤ most → source_len other ≤ most
    → total_len (blocks_or other text) ≤ most + 2
blocks_or_within most other text fits one =
    by (pem_sources (has text 0x0A) (blocks_in true 0 text))
    (omega (arith, of_blocks (has text 0x0A) (blocks_in true 0 text), bodies_within true 0 text))
  where
    by : (sources : List SourceView) → total_len sources ≤ most → total_len (or_source (Some other) sources) ≤ most + 2
    by [] fits = omega arith
    by (source ∷ sources) fits = omega arith

mark_within : (text : List ℕ) → length (without_mark text) ≤ length text
mark_within text =
    elim (bytes_eq (take 3 text) (0xEF ∷ 0xBB ∷ 0xBF ∷ []))
    as (λ (v : Bool). length (cond v (drop 3 text) text) ≤ length text)
    [ true ↦ omega (arith, length-drop 3 text) | false ↦ omega arith ]

by_within : (is_der is_text begins : Bool) (told : Option Sentence) (input : List ℕ)
    → total_len (sources_by is_der is_text begins told input) ≤ cond (is_text || begins) (length input) 0 + 2
by_within true is_text begins told input = omega arith
by_within false true begins told input =
    blocks_or_within (length input) (Text (without_mark input)) (without_mark input) (mark_within input)
    (mark_within input)
by_within false false begins (Some told) input = omega arith
by_within false false true None input = blocks_or_within (length input) (Der input) input (omega arith) (omega arith)
by_within false false false None input = omega arith

pub sources_within : (input : List ℕ) → total_len (sources_of input) ≤ text_len input + 2
unfolding sources_of
sources_within input = by_within (is_der input) (is_text input) (has_begin input) (wide_note input) input
