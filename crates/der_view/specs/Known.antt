-- What is known of bytes by their rows.
use Rattle.std.specs.Prelude.{ℕ, ◌+◌, ◌^◌, ◌-◌, ◌==◌, ◌&&◌, ◌||◌, not, min, nat_lt, Bool, true}
use Rattle.std.specs.Prelude.{false, if◌then◌else◌, List, [], ◌∷◌, length, slice_index_or}
use Rattle.std.specs.Prelude.{Option, Some, None, is_some}
use Rattle.std.specs.List.{list_any}
use Rattle.der_view.specs.Facts.{RowView, is_told, row_of}
use Rattle.der_view.specs.Grammar.{Component, Form}
use Rattle.der_view.specs.Headers.{is_type}
use Rattle.der_view.specs.Identifiers.{identifier_in}
use Rattle.der_view.specs.Rows.{Row, Element}
use Rattle.der_view.specs.Words.{same_name}
use Rattle.der_view.specs.declared.facts.Kind.{Kind}
use Rattle.der_view.specs.declared.facts.Kind.TheVariants as kinds
use Rattle.der_view.specs.declared.grammar.name.Name.{Name}
use Rattle.der_view.specs.declared.grammar.name.Name.TheVariants as names
use Rattle.der_view.specs.declared.known.Known.{Known}
use Rattle.der_view.specs.declared.marks.Fault.TheVariants as faults
use Rattle.der_view.specs.declared.marks.Mark.{Mark}
use Rattle.der_view.specs.declared.marks.Mark.TheVariants as marks
use Rattle.der_view.specs.declared.plan.Plan.{Plan}
use Rattle.der_view.specs.declared.walk.Place.{Place}

-- before the first row
abbrev pub nothing_known : Plan → Known
nothing_known plan = record {
  plan = plan;
  first_mark = None;
  marked = None;
  is_damaged = false;
  is_explicit = false;
  root_len = None;
  has_curve = false;
  curve = [];
  algorithm = [];
  key_len = None;
  point = None;
  version = None;
  has_inner = false;
  has_public = false;
}

-- ---- marks

abbrev pub is_left : Kind → Bool
is_left kinds.NotDrawn = true
is_left _ = false

abbrev pub is_after : Option Mark → Bool
is_after (Some marks.AfterRoot) = true
is_after _ = false

-- a mark that doesn't say what a command repairs: a length, a constructed string or bytes after the
-- root
abbrev pub is_harm : Option Mark → Bool
is_harm None = false
is_harm (Some marks.AfterRoot) = false
is_harm (Some (marks.Fault faults.Length)) = false
is_harm (Some (marks.Fault faults.Indefinite)) = false
is_harm (Some (marks.Fault faults.ConstructedString)) = false
is_harm (Some _) = true

abbrev pub is_sequence : Kind → Bool
is_sequence (kinds.Element tag) = is_type tag 16 && tag.constructed
is_sequence _ = false

abbrev pub names_curve : List Component → Bool
names_curve [] = false
names_curve (component ∷ components) = same_name component.3 names.NamedCurve

-- a SEQUENCE where a curve would be named
abbrev pub gives_curve : RowView → Bool
gives_curve row = is_sequence row.kind && names_curve row.expected

-- the length of the root, as a usize has it
abbrev pub root_len_by : List ℕ → Option ℕ → Option ℕ → Option ℕ
root_len_by head None old = old
root_len_by head (Some len) old = Some (min (length head + len) (2 ^ 64 - 1))

-- the offset of the first row that was meant, or else of this one, if it is
abbrev pub first_place : Option ℕ → Bool → Place → Option ℕ
first_place (Some offset) is_meant place = Some offset
first_place None is_meant place = if is_meant then Some place.offset else None

-- what a row tells by its marks, and the root by its length
abbrev pub with_marks : Known → RowView → Known
with_marks known row = record known {
  first_mark = first_place known.first_mark (list_any is_some row.marks) row.place;
  marked = first_place known.marked (is_left row.kind || list_any is_some row.marks) row.place;
  is_damaged = known.is_damaged
      || ((is_left row.kind && not (is_after (slice_index_or row.marks 0 None)))
      || (not (gives_curve row) && list_any is_harm row.marks));
  is_explicit = known.is_explicit || gives_curve row;
  root_len = if row.place.offset == 0 then root_len_by row.head row.announced known.root_len
      else known.root_len;
}

-- ---- contents

abbrev pub first_of : List ℕ → Option ℕ
first_of [] = None
first_of (byte ∷ bytes) = Some byte

abbrev pub point_by : ℕ → List ℕ → Option (ℕ × ℕ × ℕ)
point_by len (unused ∷ form ∷ rest) = Some (len, unused, form)
point_by len _ = None

abbrev pub form_name : Option Form → Name
form_name None = names.Nothing
form_name (Some form) = form.0.3

-- whether a privateKey at this depth is that of an ECPrivateKey, the root or in PKCS #8
abbrev pub is_of_ec_key : Plan → ℕ → Bool
is_of_ec_key plan depth =
    (depth == 1 && same_name (form_name plan.form) names.EcPrivateKey) || depth == 3

-- what a component with a name tells
abbrev pub with_name : Known → Name → RowView → Known
with_name known names.NamedCurve row =
    record known { has_curve = true; curve = identifier_in row.value }
with_name known names.Algorithm row =
    if length known.algorithm == 0 then record known { algorithm = identifier_in row.value }
    else known
with_name known names.PrivateKey row =
    if not row.opened && is_of_ec_key known.plan row.place.depth
    then record known { key_len = Some row.len } else known
with_name known names.Parameters row =
    if row.place.depth == 2
    then record known { is_explicit = known.is_explicit || is_sequence row.kind } else known
with_name known names.Point row = record known { point = point_by row.len row.value }
with_name known names.Version row =
    if row.place.depth == 1 then record known { version = first_of row.value } else known
with_name known names.EcPrivateKey row =
    if nat_lt 0 row.place.depth then record known { has_inner = true } else known
with_name known names.PublicKey row =
    if row.place.depth == 1 then record known { has_public = true } else known
with_name known _ row = known

-- ---- rows

-- one more row, whose component has this name
abbrev pub with_row : Known → Name → RowView → Known
with_row known name row = with_name (with_marks known row) name row

abbrev pub name_of_row : Row → Name
name_of_row (Element place element) = element.component.3
name_of_row _ = names.Nothing

-- one more, if it is told
unfoldable pub with_next : Known → Row → Known
with_next known row =
    if is_told (row_of known.plan false row)
    then with_row known (name_of_row row) (row_of known.plan false row) else known
