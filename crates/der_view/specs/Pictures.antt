-- What bytes are, and their picture.
use Rattle.std.specs.Prelude.{ℕ, ◌+◌, ◌-◌, ◌^◌, ◌==◌, ◌&&◌, ◌||◌, not, nat_lt, nat_le, min}
use Rattle.std.specs.Prelude.{if◌then◌else◌, Bool, true, false, List, [], ◌∷◌, ◌++◌, length, Option}
use Rattle.std.specs.Prelude.{Some, None, slice_index}
use Rattle.std.specs.List.{fold}
use Rattle.der_view.specs.Grammar.{Component, Form}
use Rattle.der_view.specs.Rows.{Element, EndOfContents, How, NotDrawn, Row, Step, given_part}
use Rattle.der_view.specs.Rows.{next_rows, rest_after, rest_of, rows_of, step_by, step_rows}
use Rattle.der_view.specs.declared.grammar.TheConstants as elements
use Rattle.der_view.specs.declared.grammar.forms.Secrecy.TheVariants as secrecies
use Rattle.der_view.specs.declared.grammar.forms.TheConstants as tables
use Rattle.der_view.specs.declared.plan.Plan.{Plan}
use Rattle.der_view.specs.declared.plan.Progress.{Progress}
use Rattle.der_view.specs.declared.plan.Progress.TheVariants as steps
use Rattle.der_view.specs.declared.plan.Shape.{Shape}
use Rattle.der_view.specs.declared.plan.Way.{Way}
use Rattle.der_view.specs.declared.plan.Way.TheVariants as ways
use Rattle.der_view.specs.declared.walk.Level.{Level}
use Rattle.der_view.specs.declared.walk.Place.{Place}

-- ---- the rows of a level

-- the rows that are told: none, if it is only tried how far bytes follow
abbrev pub told : Bool → List Row → List Row
told trial rows = if trial then [] else rows

abbrev pub level_rows : How → ℕ → Place → Level → List Row
level_rows how most place level =
    told level.is_trial (rows_of how most level.is_open place level.components.now level.bytes.now)

-- the bytes after it
abbrev pub level_rest : Bool → ℕ → ℕ → Level → Option (List ℕ)
level_rest loose most depth level =
    rest_of loose most depth level.is_open level.components.now level.bytes.now

-- ---- the rows of a root

-- the root that bytes begin with, which may be cut
unfoldable pub root_step : Component → List ℕ → Option Step
root_step root bytes = step_by true false (root ∷ []) bytes

-- the beginning of an input of so many bytes
abbrev pub first_place : Bool → ℕ → Place
first_place is_public len =
    record { offset = 0; depth = 0; end = len; is_public = is_public }

-- the bytes after a root
abbrev pub rest_rows : How → Place → List ℕ → List Row
rest_rows how place [] = []
rest_rows how place (byte ∷ bytes) =
    NotDrawn place [] (length (byte ∷ bytes))
    (given_part how.given place.offset (length (byte ∷ bytes))) ∷ []

abbrev pub rows_from : How → Component → Place → ℕ → Option Step → List Row
rows_from how root place len None =
    NotDrawn place (root ∷ []) len (given_part how.given 0 len) ∷ []
rows_from how root place len (Some step) =
    step_rows how len place (root ∷ []) step
    ++ next_rows (λ rest. rest_rows how (record place { offset = len - length rest }) rest)
    (rest_after how.loose len 1 step)

-- the rows of bytes whose root is this component
unfoldable pub rows_as : How → Component → Bool → List ℕ → List Row
rows_as how root is_public bytes =
    rows_from how root (first_place is_public (length bytes)) (length bytes) (root_step root bytes)

-- whether a content isn't longer than what is there of it
abbrev pub complete_by : Option ℕ → ℕ → Bool
complete_by None len = true
complete_by (Some announced) len = announced == len

abbrev pub is_complete : Step → Bool
is_complete step = complete_by step.header.content_len (length step.content)

abbrev pub ended_by : Step → Option (List ℕ) → Bool
ended_by step None = false
ended_by step (Some []) = is_complete step
ended_by step (Some (byte ∷ rest)) = false

abbrev pub whole_by : Bool → ℕ → Option Step → Bool
whole_by loose len None = false
whole_by loose len (Some step) = ended_by step (rest_after loose len 1 step)

-- whether they follow it, and no bytes come after it
unfoldable pub whole_as : Bool → Component → List ℕ → Bool
whole_as loose root bytes = whole_by loose (length bytes) (root_step root bytes)

abbrev pub cut_by : Option Step → Bool
cut_by None = false
cut_by (Some step) = not (is_complete step)

-- whether the content of the root is longer than what is there of it
unfoldable pub is_cut : List ℕ → Bool
is_cut bytes = cut_by (root_step elements.ELEMENT bytes)

-- ---- what bytes are

-- the rows up to the first that doesn't follow
abbrev pub strictly : How
strictly = record { loose = false; small = false; given = [] }

-- ---- keys whose private key has another tag

-- RFC 5915 section 3: after the root or an element of it, with this tag and length
unfoldable pub with_tag : Progress → ℕ → ℕ → Progress
with_tag steps.Nothing tag len = if tag == 0x30 then steps.Root else steps.Others
with_tag steps.Root tag len =
    if tag == 0x02 && len == 1 then steps.Version else steps.Others
with_tag steps.Version tag len =
    if nat_lt tag 0x20 && not (tag == 0x04) then steps.Replaced len else steps.Others
with_tag (steps.Replaced n) tag len =
    if tag == 0xA0 then steps.Parameters
    else (if tag == 0xA1 then steps.PublicKey else steps.Others)
with_tag steps.Parameters tag len = if tag == 0xA1 then steps.PublicKey else steps.Others
with_tag _ tag len = steps.Others

-- whether no element has to follow, and one tells a key from other bytes, or it has as many as a
-- private key on P-224, P-256, P-384 or P-521
abbrev pub is_last : Progress → Bool
is_last (steps.Replaced len) = len == 28 || (len == 32 || (len == 48 || len == 66))
is_last steps.Parameters = true
is_last steps.PublicKey = true
is_last _ = false

-- ---- the nearest form

-- how far rows are of a form: the bytes that aren't drawn, and the elements in the root alone, as a
-- usize has them; and how far they are of a key whose private key has another tag
abbrev pub with_row : Shape → Row → Shape
with_row shape (Element place element) = record shape {
  parts = if place.depth == 1 then min (shape.parts + 1) (2 ^ 64 - 1) else shape.parts;
  progress = if nat_lt place.depth 2
      then with_tag shape.progress (slice_index element.head 0) element.len else shape.progress;
}
with_row shape (EndOfContents place) = shape
with_row shape (NotDrawn place expected len content) =
    record shape { left = min (shape.left + len) (2 ^ 64 - 1) }

-- before the first row
abbrev pub no_shape : Shape
no_shape = record { left = 0; parts = 0; progress = steps.Nothing; is_whole = false }

abbrev pub shape_in : List Row → Shape
shape_in rows = fold with_row no_shape rows

unfoldable pub left_as : Component → List ℕ → ℕ
left_as root bytes = (shape_in (rows_as strictly root false bytes)).left

unfoldable pub parts_as : Component → List ℕ → ℕ
parts_as root bytes = (shape_in (rows_as strictly root false bytes)).parts

-- whether fewer bytes are left by a form than by another; or as many, and it alone is followed to
-- its end
abbrev pub is_nearer : ℕ → Bool → ℕ → Bool → Bool
is_nearer left whole other_left other_whole =
    nat_lt left other_left || (left == other_left && (whole && not other_whole))

-- the nearer of two forms; the first, if none is
unfoldable pub better : List ℕ → Form → Form → Form
better bytes first second =
    if is_nearer (left_as second.0 bytes) (whole_as false second.0 bytes) (left_as first.0 bytes)
    (whole_as false first.0 bytes) then second else first

unfoldable pub best : List ℕ → Form → List Form → Form
best bytes first [] = first
best bytes first (second ∷ others) = best bytes (better bytes first second) others

-- the form that the fewest bytes don't follow
unfoldable pub nearest : List ℕ → Form
nearest bytes = best bytes tables.FIRST tables.OTHERS

-- bytes are known by two parts of the root, or by all of them
unfoldable pub known_as : Form → List ℕ → Option Form
known_as form bytes =
    if whole_as false form.0 bytes || nat_le 2 (parts_as form.0 bytes) then Some form else None

-- one element, in which each header of BER fits, and no bytes after it
unfoldable pub is_tree : List ℕ → Bool
is_tree bytes = whole_as false elements.ELEMENT bytes

-- how bytes are drawn: strictly a private key's form, unless they are a whole tree that doesn't
-- follow it, and one that can hold a private key, unless they are a whole tree
abbrev pub way_of : Option Form → Bool → Bool → Way
way_of None whole rooted = if rooted then ways.Loose else ways.Nothing
way_of (Some (root, secrecies.Private)) whole rooted =
    if whole || not rooted then ways.Strict else ways.Loose
way_of (Some (root, secrecies.Closed)) whole rooted =
    if not rooted then ways.Strict else ways.Loose
way_of (Some (root, secrecies.Public)) whole rooted = ways.Loose

-- whether bytes are an ECPrivateKey but for the tag of its privateKey
unfoldable pub is_retagged : List ℕ → Bool
is_retagged bytes = is_last (shape_in (rows_as strictly elements.ELEMENT false bytes)).progress

-- the form of bytes, known or that of such a key
abbrev pub form_by : Option Form → Bool → Option Form
form_by None retagged = if retagged then Some tables.FIRST else None
form_by (Some form) retagged = Some form

abbrev pub form_as : Form → List ℕ → Option Form
form_as form bytes = form_by (known_as form bytes) (is_tree bytes && is_retagged bytes)

abbrev pub plan_as : Form → List ℕ → Plan
plan_as form bytes = record {
  form = form_as form bytes;
  way = way_of (form_as form bytes) (whole_as false form.0 bytes) (is_tree bytes);
  is_whole = whole_as false form.0 bytes;
  is_tree = is_tree bytes;
  is_cut = is_cut bytes;
  len = length bytes;
}

-- what bytes are, and how they are drawn
unfoldable pub plan_of : List ℕ → Plan
plan_of bytes = plan_as (nearest bytes) bytes

-- ---- their picture

abbrev pub root_of : Option Form → Component
root_of None = elements.ELEMENT
root_of (Some form) = form.0

abbrev pub holds_no_key : Option Form → Bool
holds_no_key (Some (root, secrecies.Public)) = true
holds_no_key _ = false

-- no part can hold a private key
abbrev pub is_public : Plan → Bool
is_public plan = holds_no_key plan.form && (plan.is_whole && plan.is_tree)

abbrev pub is_loose : Way → Bool → Bool
is_loose ways.Loose all = true
is_loose _ all = all

abbrev pub rules_by : Plan → Bool → List ℕ → How
rules_by plan all bytes = record {
  loose = is_loose plan.way all;
  small = is_loose plan.way all && plan.is_tree;
  given = if all then bytes else [];
}

abbrev pub rows_by_way : Way → Plan → Bool → List ℕ → List Row
rows_by_way ways.Nothing plan all bytes =
    rest_rows (rules_by plan all bytes) (first_place false (length bytes)) bytes
rows_by_way _ plan all bytes =
    rows_as (rules_by plan all bytes) (root_of plan.form) (is_public plan) bytes

-- the rows of bytes by a plan
unfoldable pub rows_by : Plan → Bool → List ℕ → List Row
rows_by plan all bytes = rows_by_way plan.way plan all bytes

-- the picture of bytes
unfoldable pub picture : Bool → List ℕ → List Row
picture all bytes = rows_by (plan_of bytes) all bytes
