-- Texts that are almost PEM or base64.
use Rattle.std.specs.Prelude.{ℕ, ◌+◌, ◌==◌, ◌||◌, Bool, true, false, if◌then◌else◌, List, [], ◌∷◌}
use Rattle.std.specs.Prelude.{codes, count_by, slice_index_or, Option, option_map}
use denote.Enum.Declared.{tag_of}
use Rattle.der_view.specs.Blocks.{after_front, before, begin_at, bytes_at, dashes, has, is_in}
use Rattle.der_view.specs.Blocks.{is_this, labelled, onward}
use Rattle.der_view.specs.contracts.text.almost.Flaw.{the_type}
use Rattle.der_view.specs.declared.text.almost.Armour.{Armour}
use Rattle.der_view.specs.declared.text.almost.Flaw.{Flaw}
use Rattle.der_view.specs.declared.text.almost.Flaw.TheVariants as flaws
use Rattle.der_view.specs.declared.text.almost.TheConstants.{FLAWS}

abbrev pub flaw_words : Flaw → List ℕ
flaw_words flaw = (slice_index_or FLAWS (tag_of the_type flaw) record { now = [] }).now

-- what is wrong with a body that is almost base64, or else this
unfoldable pub body_flaw : List ℕ → Flaw → Flaw
body_flaw body other =
    if is_in (bytes_at (0x5C ∷ 0x6E ∷ [])) true body
    || is_in (bytes_at (0x5C ∷ 0x72 ∷ [])) true body
    then flaws.Escaped
    else (if has body 0x2D || has body 0x5F then flaws.Url else other)

-- what is between the dashes of PEM that no line begins with, or before those of END: the number of
-- its line, its label, its body, and whether BEGIN and END are there
pub record ArmourView : Type 0 where
  pub line : ℕ
  pub label : List ℕ
  pub body : List ℕ
  pub has_begin : Bool
  pub has_end : Bool

abbrev pub armour_view : Armour → ArmourView
armour_view armour = record {
  line = armour.line;
  label = armour.label.now;
  body = armour.body.now;
  has_begin = armour.has_begin;
  has_end = armour.has_end;
}

-- what is wrong with it, if its body is base64
abbrev pub armour_flaw : ArmourView → Flaw
armour_flaw armour =
    if armour.has_begin
    then (if has armour.body 0x0A || has armour.body 0x0D then flaws.Indented else flaws.OneLine)
    else flaws.NoBegin

-- whether a text begins with an END of this label
abbrev pub is_end_of : List ℕ → List ℕ → Bool
is_end_of text label =
    is_this (option_map (before (bytes_at dashes) true)
    (after_front (codes "-----END ") text)) label

-- the number of the line that begins last in a text, or after it
abbrev pub line_after : List ℕ → ℕ
line_after text = count_by (λ byte. byte == 0x0A) text + 1

-- what is after a BEGIN, with which a text begins in this line
unfoldable pub begin_armour : ℕ → List ℕ → Option ArmourView
begin_armour line begin =
    option_map (λ found. record {
      line = line;
      label = found.0;
      body = before (bytes_at dashes) true found.1;
      has_begin = true;
      has_end = is_end_of (onward (bytes_at dashes) true found.1) found.0;
    }) (labelled (codes "BEGIN ") begin)

abbrev pub end_at : Bool → List ℕ → Bool
end_at = bytes_at (codes "-----END ")

-- what is after the first BEGIN of a text, or before its first END
unfoldable pub armour_of : List ℕ → Option ArmourView
armour_of text =
    if is_in begin_at true text
    then begin_armour (line_after (before begin_at true text)) (onward begin_at true text)
    else option_map (λ found. record {
      line = line_after (before end_at true text);
      label = found.0;
      body = before end_at true text;
      has_begin = false;
      has_end = true;
    }) (labelled (codes "END ") (onward end_at true text))
