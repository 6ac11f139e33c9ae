-- The rows of bytes: elements, in order, as far as they follow a structure of the table, or as far
-- as they can be read, and the number of bytes that aren't drawn.
use Rattle.std.specs.Prelude.{ℕ, zero, suc, ◌+◌, ◌-◌, ◌==◌, ◌&&◌, ◌||◌, nat_le, nat_lt, not}
use Rattle.std.specs.Prelude.{if◌then◌else◌, Bool, true, false, List, [], ◌∷◌, ◌++◌, length, take}
use Rattle.std.specs.Prelude.{drop, Option, Some, None, Result, Ok, Err, is_none, is_some}
use Rattle.std.specs.List.{list_all}
use Rattle.std.specs.Option.{option_and_then, option_map_or}
use Rattle.std.specs.Str.{bytes_eq}
use Rattle.der_view.specs.Contents.{is_primitive, is_whole, shown_len}
use Rattle.der_view.specs.Grammar.{Case, Component, cases, components, identifiers}
use Rattle.der_view.specs.Headers.{header_of}
use Rattle.der_view.specs.declared.grammar.TheConstants as tables
use Rattle.der_view.specs.declared.grammar.Content.{Content}
use Rattle.der_view.specs.declared.grammar.Content.TheVariants as contents
use Rattle.der_view.specs.declared.grammar.Presence.{Presence}
use Rattle.der_view.specs.declared.grammar.Presence.TheVariants as presences
use Rattle.der_view.specs.declared.grammar.Structure.{Structure}
use Rattle.der_view.specs.declared.grammar.Structure.TheVariants as structures
use Rattle.der_view.specs.declared.header.ElementFault.{ElementFault}
use Rattle.der_view.specs.declared.header.Header.{Header}
use Rattle.der_view.specs.declared.step.Step.{Step as CodeStep}
use Rattle.der_view.specs.declared.walk.Element.{Element as Told}
use Rattle.der_view.specs.declared.walk.Place.{Place}
use Rattle.der_view.specs.declared.walk.Rules.{Rules}

-- An element, as a row has it: its header and the bytes of it, its component, those that could come
-- there if it is none of them, whether it is one of them, the length of its content, what is shown
-- of it, what is given of it, and whether it is rows.
pub record ElementView : Type 0 where
  pub header : Header
  pub head : List ℕ
  pub component : Component
  pub expected : List Component
  pub follows : Bool
  pub len : ℕ
  pub shown : List ℕ
  pub content : List ℕ
  pub opened : Bool

-- the same in the code
abbrev pub view_of : Told → ElementView
view_of element = record {
  header = element.header;
  head = element.head.now;
  component = element.component;
  expected = element.expected.now;
  follows = element.follows;
  len = element.len;
  shown = element.shown.now;
  content = element.content.now;
  opened = element.opened;
}

-- An element at a place; an end-of-contents; or so many bytes that aren't drawn, the components
-- that could be there, and what is given of the bytes.
pub data Row : Type 0 where
  Element : Place → ElementView → Row
  EndOfContents : Place → Row
  NotDrawn : Place → List Component → ℕ → List ℕ → Row

-- How bytes are drawn: whether elements that don't follow are rows all the same, whether small
-- contents of elements without a component are shown, and the input, if everything is given.
pub record How : Type 0 where
  pub loose : Bool
  pub small : Bool
  pub given : List ℕ

abbrev pub rules_of : Rules → How
rules_of rules =
    record { loose = rules.is_loose; small = rules.shows_small; given = rules.given.now }

-- ---- what comes next

abbrev pub parts_by : Bool → List ℕ → Header → Option ℕ → Option (Header × List ℕ × List ℕ)
parts_by cut bytes header None = Some (header, drop header.len bytes, [])
parts_by cut bytes header (Some n) =
    if nat_lt (length (drop header.len bytes)) n
    then (if cut then Some (header, drop header.len bytes, []) else None)
    else Some (header, take n (drop header.len bytes), drop n (drop header.len bytes))

abbrev pub element_by : Bool → List ℕ → Result Header ElementFault
    → Option (Header × List ℕ × List ℕ)
element_by cut bytes (Err fault) = None
element_by cut bytes (Ok header) = parts_by cut bytes header header.content_len

-- X.690 section 8.1: the header and the content of the element that bytes begin with, and the bytes
-- after it. It may be cut or not. Of an indefinite length the content is all that comes.
abbrev pub element_at : Bool → List ℕ → Option (Header × List ℕ × List ℕ)
element_at cut bytes = element_by cut bytes (header_of bytes)

abbrev pub may_be_absent : Presence → Bool
may_be_absent presences.Needed = false
may_be_absent _ = true

abbrev pub comes_again : Presence → Bool
comes_again presences.Many = true
comes_again _ = false

-- RFC 5280 section 4.1.2.5: a Time is a UTCTime, 17, or else a GeneralizedTime, 18; and 00 stands
-- for any tag
abbrev pub has_tag : ℕ → ℕ → Bool
has_tag expected tag =
    expected == tag || (expected == 0x17 && tag == 0x18) || expected == 0x00

-- the first component that an element with this tag can be, and those that may come after it
abbrev pub fitting : ℕ → List Component → Option (Component × List Component)
fitting tag [] = None
fitting tag (component ∷ others) =
    if has_tag component.0 tag
    then Some (component, if comes_again component.1 then component ∷ others else others)
    else (if may_be_absent component.1 then fitting tag others else None)

-- whether none of these has to come
abbrev pub may_end : List Component → Bool
may_end some = list_all (λ component. may_be_absent component.1) some

-- where a level ends: at an end-of-contents (X.690 section 8.1.5), or with the bytes
unfoldable pub end_at : Bool → Bool → List Component → List ℕ → Option ℕ
end_at loose marked some [] =
    if loose || (not marked && may_end some) then Some 0 else None
end_at loose marked some (a ∷ []) = None
end_at loose marked some (a ∷ b ∷ bytes) =
    if (a == 0x00 && b == 0x00) && (marked && (loose || may_end some)) then Some 2 else None

-- whether a content begins with these bytes, and has at most 12
abbrev pub is_of : List ℕ → List ℕ → Bool
is_of front bytes = nat_le (length bytes) 12 && bytes_eq (take (length front) bytes) front

-- whether a content follows the table
unfoldable pub admits : Header → Content → List ℕ → Bool
admits header (contents.Short most) bytes = is_whole header bytes && nat_le (length bytes) most
admits header contents.Version bytes = is_whole header bytes && length bytes == 1
admits header (contents.Of family) bytes = is_whole header bytes && is_of (identifiers family) bytes
admits header contents.Point bytes = is_primitive header
admits header (contents.Whole structure) bytes = is_primitive header
admits header (contents.Bits structure) bytes = is_primitive header
admits header _ bytes = true

-- the components after an identifier with these bytes: those of its first case
abbrev pub chosen : List Case → List ℕ → List Component → List Component
chosen [] bytes others = others
chosen (one ∷ more) bytes others =
    if is_of (identifiers one.0) bytes then components one.1 else chosen more bytes others

-- the components after an element, which nothing decides but what is shown of it
unfoldable pub others_after : Header → Component → List ℕ → List Component → List Component
others_after header component bytes others =
    chosen (cases component.3) (take (shown_len false header component.2 bytes) bytes) others

abbrev pub component_by : Header → List ℕ → Option (Component × List Component)
    → Option (Component × List Component)
component_by header content None = None
component_by header content (Some found) =
    if admits header found.0.2 content
    then Some (found.0, others_after header found.0 content found.1) else None

-- the first component that such an element can be, and those that may come after it
abbrev pub component_at : ℕ → Header → List ℕ → List Component
    → Option (Component × List Component)
component_at tag header content some = component_by header content (fitting tag some)

-- the next element: its header and the bytes of it, its component, those after it, whether it is
-- one of those that could come, its content, and the bytes after it
pub record Step : Type 0 where
  pub header : Header
  pub head : List ℕ
  pub component : Component
  pub others : List Component
  pub follows : Bool
  pub content : List ℕ
  pub rest : List ℕ

-- the one with these
abbrev pub step_as : Header → List ℕ → Component → List Component → Bool → List ℕ → List ℕ → Step
step_as header head component others follows content rest = record {
  header = header;
  head = head;
  component = component;
  others = others;
  follows = follows;
  content = content;
  rest = rest;
}

-- the same in the code
abbrev pub step_of : CodeStep → Step
step_of step =
    step_as step.header step.head.now step.component step.others.now step.follows step.content.now
    step.rest.now

abbrev pub step_made : Bool → List ℕ → Header × List ℕ × List ℕ
    → Option (Component × List Component) → Option Step
step_made misfit bytes (header, content, rest) (Some found) =
    Some (step_as header (take header.len bytes) found.0 found.1 true content rest)
step_made misfit bytes (header, content, rest) None =
    if misfit then Some (step_as header (take header.len bytes) tables.ELEMENT
    (components structures.Any) false content rest) else None

abbrev pub step_with : Bool → ℕ → List Component → List ℕ → Option (Header × List ℕ × List ℕ)
    → Option Step
step_with misfit tag some bytes None = None
step_with misfit tag some bytes (Some element) =
    step_made misfit bytes element (component_at tag element.0 element.1 some)

-- the next element, which may be cut or not, and be none of these components or not
unfoldable pub step_by : Bool → Bool → List Component → List ℕ → Option Step
step_by cut misfit some [] = None
step_by cut misfit some (tag ∷ bytes) =
    step_with misfit tag some (tag ∷ bytes) (element_at cut (tag ∷ bytes))

-- the next element of a level at a depth: at most 64 elements are inside each other
unfoldable pub step_at : Bool → ℕ → List Component → List ℕ → Option Step
step_at loose depth some bytes =
    if nat_lt depth 64 then step_by loose loose some bytes else None

-- ---- the bytes after a level

-- whether the length of an element is indefinite
abbrev pub is_open : Step → Bool
is_open step = is_none step.header.content_len

-- whether the content of a constructed element is any elements
abbrev pub is_elements : Bool → Content → Bool
is_elements loose contents.Free = true
is_elements loose _ = loose

-- X.690 section 8.6.2: bits of which none is unused
abbrev pub has_bits : List ℕ → Bool
has_bits (unused ∷ bits ∷ bytes) = unused == 0x00
has_bits _ = false

-- whether the bits of a BIT STRING are a structure
abbrev pub are_bits : (Structure → List ℕ → Bool) → Structure → List ℕ → Bool
are_bits whole structure bytes = has_bits bytes && whole structure (drop 1 bytes)

-- the structure that a content is drawn as
unfoldable pub opened_in : (Structure → List ℕ → Bool) → Bool → Header → Content → List ℕ
    → Option Structure
opened_in whole loose header (contents.Inside structure) bytes = Some structure
opened_in whole loose header (contents.Whole structure) bytes =
    if whole structure bytes then Some structure else None
opened_in whole loose header (contents.Bits structure) bytes =
    if are_bits whole structure bytes then Some structure else None
opened_in whole loose header content bytes =
    if is_none header.content_len || (header.tag.constructed && is_elements loose content)
    then Some structures.Any else None

abbrev pub opened_by : (Structure → List ℕ → Bool) → Bool → Step → Option Structure
opened_by whole loose step = opened_in whole loose step.header step.component.2 step.content

-- a content that follows its structure to the end is drawn so
abbrev pub inside_loose : Content → Bool → Bool
inside_loose (contents.Whole structure) loose = false
inside_loose (contents.Bits structure) loose = false
inside_loose _ loose = loose

-- the number of bytes of a content before its elements: of a BIT STRING that of its unused bits
abbrev pub front_len : Content → ℕ
front_len (contents.Bits structure) = 1
front_len _ = 0

-- the elements of a content
abbrev pub inside_bytes : Step → List ℕ
inside_bytes step = drop (front_len step.component.2) step.content

abbrev pub after_inside : Bool → List ℕ → Option (List ℕ) → Option (List ℕ)
after_inside marked rest None = None
after_inside true rest (Some after) = Some after
after_inside false rest (Some after) = Some rest

abbrev pub rest_with : (Structure → Option (List ℕ)) → Option Structure → Step → Option (List ℕ)
rest_with inside None step = Some step.rest
rest_with inside (Some structure) step =
    after_inside (is_open step) step.rest (inside structure)

abbrev pub rest_next : (List ℕ → Option (List ℕ)) → Option (List ℕ) → Option (List ℕ)
rest_next next None = None
rest_next next (Some rest) = next rest

-- The bytes after a level at a depth, which an end-of-contents ends or not, unless its rows end in
-- it; at most so many elements, one after or inside the other.
abbrev pub rest_of : Bool → ℕ → ℕ → Bool → List Component → List ℕ → Option (List ℕ)
rest_of loose zero depth marked some bytes = None
rest_of loose (suc most) depth marked some bytes =
    option_map_or (λ n. Some (drop n bytes)) (end_at loose marked some bytes)
    (option_and_then
    (λ step. rest_next (λ rest. rest_of loose most depth marked step.others rest)
    (rest_with
    (λ structure. rest_of (inside_loose step.component.2 loose) most (depth + 1) (is_open step)
    (components structure) (inside_bytes step))
    (opened_by (λ structure content. is_some
    (rest_of false most (depth + 1) false (components structure) content)) loose step) step))
    (step_at loose depth some bytes))

-- whether a content follows a structure to its end
abbrev pub is_followed : ℕ → ℕ → Structure → List ℕ → Bool
is_followed most depth structure content =
    is_some (rest_of false most depth false (components structure) content)

-- the structure that an element is drawn as, in which elements are at this depth
abbrev pub opened_of : Bool → ℕ → ℕ → Step → Option Structure
opened_of loose most depth step =
    opened_by (λ structure content. is_followed most depth structure content) loose step

-- the bytes after an element
abbrev pub rest_after : Bool → ℕ → ℕ → Step → Option (List ℕ)
rest_after loose most depth step =
    rest_with
    (λ structure. rest_of (inside_loose step.component.2 loose) most depth (is_open step)
    (components structure) (inside_bytes step))
    (opened_of loose most depth step) step

-- ---- rows

-- so many bytes after these of what is given
abbrev pub given_part : List ℕ → ℕ → ℕ → List ℕ
given_part given start len = take len (drop start given)

-- where a level ends: what is missing, and an end-of-contents
abbrev pub end_rows : Place → List Component → ℕ → List Row
end_rows place some len =
    (if may_end some then [] else NotDrawn place some 0 [] ∷ [])
    ++ (if nat_lt 0 len then EndOfContents (record place { depth = place.depth - 1 }) ∷ [] else [])

abbrev pub inside_rules : How → Content → How
inside_rules how content = record how { loose = inside_loose content how.loose }

abbrev pub inside : Place → Step → Place
inside place step =
    record place {
      offset = place.offset + step.header.len + front_len step.component.2;
      depth = place.depth + 1;
    }

-- the place where so many bytes are left of those at a place
abbrev pub after : Place → List ℕ → List ℕ → Place
after place bytes rest = record place { offset = place.offset + (length bytes - length rest) }

-- an element as a row
abbrev pub view : How → Place → List Component → Bool → Step → ElementView
view how place some opened step = record {
  header = step.header;
  head = step.head;
  component = step.component;
  expected = if step.follows then [] else some;
  follows = step.follows;
  len = if is_open step then 0 else length step.content;
  shown = take (shown_len how.small step.header step.component.2 step.content) step.content;
  content = if opened then []
      else given_part how.given (place.offset + step.header.len) (length step.content);
  opened = opened;
}

-- the number of bytes of a content that have no other row
abbrev pub own_len : ElementView → ℕ
own_len element = if element.opened then front_len element.component.2 else element.len

abbrev pub element_rows : How → Place → List Component → (Structure → List Row)
    → Option Structure → Step → List Row
element_rows how place some rows opened step =
    Element place (view how place some (is_some opened) step) ∷ option_map_or rows opened []

abbrev pub next_rows : (List ℕ → List Row) → Option (List ℕ) → List Row
next_rows next None = []
next_rows next (Some rest) = next rest

-- the bytes that aren't drawn: all up to the end
abbrev pub left_rows : How → Place → List Component → List Row
left_rows how place some =
    let len = place.end - place.offset in
    NotDrawn place some len (given_part how.given place.offset len) ∷ []

-- the rows of a level at a place
abbrev pub rows_of : How → ℕ → Bool → Place → List Component → List ℕ → List Row
rows_of how zero marked place some bytes = left_rows how place some
rows_of how (suc most) marked place some bytes =
    option_map_or (λ n. end_rows place some n) (end_at how.loose marked some bytes)
    (option_map_or
    (λ step. element_rows how place some
    (λ structure. rows_of (inside_rules how step.component.2) most (is_open step)
    (inside place step) (components structure) (inside_bytes step))
    (opened_of how.loose most (place.depth + 1) step) step
    ++ next_rows (λ rest. rows_of how most marked (after place bytes rest) step.others rest)
    (rest_after how.loose most (place.depth + 1) step))
    (step_at how.loose place.depth some bytes) (left_rows how place some))

-- the rows of an element at a place
abbrev pub step_rows : How → ℕ → Place → List Component → Step → List Row
step_rows how most place some step =
    element_rows how place some
    (λ structure. rows_of (inside_rules how step.component.2) most (is_open step)
    (inside place step) (components structure) (inside_bytes step))
    (opened_of how.loose most (place.depth + 1) step) step
