-- What is printed of a row.
use Rattle.std.specs.Prelude.{ℕ, ◌-◌, ◌/◌, ◌%◌, ◌==◌, ◌&&◌, ◌||◌, not, nat_lt, Bool, true, false}
use Rattle.std.specs.Prelude.{if◌then◌else◌, List, [], ◌∷◌, length, Option, Some, None, is_some}
use Rattle.std.specs.Prelude.{slice_index_or}
use Rattle.std.specs.List.{list_any}
use Rattle.std.specs.Option.{option_map_or}
use Rattle.der_view.specs.Grammar.{Component, Form}
use Rattle.der_view.specs.Headers.{is_type}
use Rattle.der_view.specs.Marks.{content_fault, length_fault, string_fault, tag_fault}
use Rattle.der_view.specs.Rows.{ElementView, Row, Element, EndOfContents, NotDrawn, own_len}
use Rattle.der_view.specs.Words.{same_name}
use Rattle.der_view.specs.declared.facts.Kind.{Kind}
use Rattle.der_view.specs.declared.facts.Kind.TheVariants as kinds
use Rattle.der_view.specs.declared.facts.Point.{Point}
use Rattle.der_view.specs.declared.facts.Point.TheVariants as points
use Rattle.der_view.specs.declared.facts.RowFacts.{RowFacts}
use Rattle.der_view.specs.declared.facts.Shown.{Shown}
use Rattle.der_view.specs.declared.facts.Shown.TheVariants as shows
use Rattle.der_view.specs.declared.facts.TheConstants.{PRIVATE_NAMES}
use Rattle.der_view.specs.declared.grammar.Content.{Content}
use Rattle.der_view.specs.declared.grammar.Content.TheVariants as contents
use Rattle.der_view.specs.declared.grammar.forms.Secrecy.TheVariants as secrecies
use Rattle.der_view.specs.declared.grammar.name.Name.{Name}
use Rattle.der_view.specs.declared.grammar.name.Name.TheVariants as names
use Rattle.der_view.specs.declared.header.Class.{Class}
use Rattle.der_view.specs.declared.header.Class.TheVariants as classes
use Rattle.der_view.specs.declared.header.Tag.{Tag}
use Rattle.der_view.specs.declared.marks.Fault.TheVariants as faults
use Rattle.der_view.specs.declared.marks.Mark.{Mark}
use Rattle.der_view.specs.declared.marks.Mark.TheVariants as marks
use Rattle.der_view.specs.declared.plan.Plan.{Plan}
use Rattle.der_view.specs.declared.walk.Place.{Place}

-- all that is printed of a row
pub record RowView : Type 0 where
  pub place : Place
  pub kind : Kind
  pub head : List ℕ
  pub announced : Option ℕ
  pub len : ℕ
  pub opened : Bool
  pub own_len : ℕ
  pub name : Name
  pub secret : Bool
  pub shown : Shown
  pub value : List ℕ
  pub marks : List (Option Mark)
  pub expected : List Component
  pub content : List ℕ

-- the same in the code
abbrev pub row_view : RowFacts → RowView
row_view row = record {
  place = row.place;
  kind = row.kind;
  head = row.head.now;
  announced = row.announced;
  len = row.len;
  opened = row.opened;
  own_len = row.own_len;
  name = row.name;
  secret = row.is_secret;
  shown = row.shown;
  value = row.value.now;
  marks = row.marks;
  expected = row.expected.now;
  content = row.content.now;
}

-- ---- names

-- a private key's form
abbrev pub is_private : Option Form → Bool
is_private (Some (component, secrecies.Private)) = true
is_private _ = false

-- names are printed where the form is followed to its end, or cut, or has no private key
abbrev pub shown_name : Plan → Name → Name
shown_name plan name =
    if plan.is_whole || plan.is_cut || not (is_private plan.form) then name else names.Nothing

-- the components with private bytes
abbrev pub is_private_name : Name → Bool
is_private_name name = list_any (same_name name) PRIVATE_NAMES

-- ---- contents

abbrev pub is_count : Shown → Bool
is_count shows.Count = true
is_count _ = false

-- SEC1 v2.0 section 2.3.3: the form of the point that begins with this byte, before so many others
abbrev pub point_of : ℕ → ℕ → Point
point_of form size =
    if size == 0 then (if form == 0x00 then points.Infinity else points.None)
    else (if form == 0x02 || form == 0x03 then points.Compressed size
    else (if form == 0x04 && size % 2 == 0 then points.Uncompressed (size / 2)
    else (if form == 0x05 then points.Compact size
    else (if (form == 0x06 || form == 0x07) && size % 2 == 0 then points.Hybrid (size / 2)
    else points.None))))

abbrev pub bits_point : ℕ → List ℕ → Point
bits_point len [] = points.None
bits_point len (form ∷ rest) = point_of form (len - 2)

-- a point is the content of an OCTET STRING, or in a BIT STRING, after the number of unused bits
abbrev pub point_shown : Tag → ℕ → List ℕ → Shown
point_shown tag len [] = shows.Count
point_shown tag len (first ∷ rest) =
    if is_type tag 4 then shows.Point (point_of first (len - 1))
    else (if first == 0x00 then shows.Point (bits_point len rest) else shows.Unused first)

-- a primitive element, of which all is there and shown
abbrev pub is_all : ElementView → Bool
is_all element =
    not element.header.tag.constructed
    && option_map_or (λ len. len == length element.shown) element.header.content_len false

abbrev pub content_shown : Content → ElementView → Shown
content_shown contents.Point element = point_shown element.header.tag element.len element.shown
content_shown _ element = if is_all element then shows.Value else shows.Count

abbrev pub shown_by : ElementView → Shown
shown_by element =
    if element.opened then shows.Nothing else content_shown element.component.2 element

-- ---- marks

abbrev pub missing_mark : Option ℕ → ℕ → Option Mark
missing_mark None len = None
missing_mark (Some announced) len =
    if nat_lt len announced then Some (marks.Missing (announced - len) announced) else None

-- what is wrong with a content of this class and type, of which all is shown or the first bytes:
-- of a BIT STRING the number of unused bits (X.690 section 8.6.2.2)
abbrev pub class_fault : Class → ℕ → Bool → List ℕ → Option Mark
class_fault classes.Universal number true shown = content_fault number shown
class_fault classes.Universal number false (unused ∷ bytes) =
    if number == 3 && nat_lt 7 unused then Some (marks.Fault faults.UnusedAboveSeven) else None
class_fault _ number all shown = None

abbrev pub shown_fault : ElementView → Option Mark
shown_fault element =
    class_fault element.header.tag.class element.header.tag.number (is_all element) element.shown

-- where a private key's form isn't followed
abbrev pub misfit_mark : Plan → Bool → Option Mark
misfit_mark plan follows =
    if is_private plan.form && not plan.is_cut && not follows then Some marks.Expected else None

abbrev pub element_marks : Plan → ElementView → List (Option Mark)
element_marks plan element =
    missing_mark element.header.content_len element.len
    ∷ tag_fault element.head element.header.tag.number
    ∷ length_fault element.header.content_len (element.header.len - element.header.tag_len)
    ∷ string_fault element.header.tag ∷ shown_fault element
    ∷ misfit_mark plan element.follows ∷ []

-- ---- rows

abbrev pub element_row : Plan → Bool → Place → ElementView → RowView
element_row plan all place element = record {
  place = place;
  kind = kinds.Element element.header.tag;
  head = element.head;
  announced = element.header.content_len;
  len = element.len;
  opened = element.opened;
  own_len = own_len element;
  name = shown_name plan element.component.3;
  secret = not all && is_private_name (shown_name plan element.component.3)
      && is_count (shown_by element);
  shown = shown_by element;
  value = element.shown;
  marks = element_marks plan element;
  expected = element.expected;
  content = element.content;
}

-- so many bytes, of which no more is printed
abbrev pub bare_row : Place → Kind → ℕ → RowView
bare_row place kind len = record {
  place = place;
  kind = kind;
  head = [];
  announced = Some len;
  len = len;
  opened = false;
  own_len = len;
  name = names.Nothing;
  secret = false;
  shown = shows.Nothing;
  value = [];
  marks = None ∷ None ∷ None ∷ None ∷ None ∷ None ∷ [];
  expected = [];
  content = [];
}

abbrev pub end_row : Place → RowView
end_row place = record (bare_row place kinds.EndOfContents 0) { head = 0 ∷ 0 ∷ [] }

abbrev pub not_drawn_row : Plan → Place → List Component → ℕ → List ℕ → RowView
not_drawn_row plan place expected len content = record (bare_row place kinds.NotDrawn len) {
  marks =
      (if place.depth == 0 && nat_lt 0 place.offset then Some marks.AfterRoot
      else misfit_mark plan false) ∷ None ∷ None ∷ None ∷ None ∷ None ∷ [];
  expected = expected;
  content = content;
}

-- all that is printed of a row by a plan, with all contents or without
abbrev pub row_of : Plan → Bool → Row → RowView
row_of plan all (Element place element) = element_row plan all place element
row_of plan all (EndOfContents place) = end_row place
row_of plan all (NotDrawn place expected len content) =
    not_drawn_row plan place expected len content

-- a row of no bytes is told only if it has a mark
abbrev pub is_told_by : Kind → ℕ → List (Option Mark) → Bool
is_told_by kinds.NotDrawn len row_marks = nat_lt 0 len || is_some (slice_index_or row_marks 0 None)
is_told_by _ len row_marks = true

abbrev pub is_told : RowView → Bool
is_told row = is_told_by row.kind row.len row.marks
