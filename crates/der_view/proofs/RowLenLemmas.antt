-- Each byte is in one row, and the rows are in order.
use Rattle.std.proofs.Common.{◌≡◌, ℕ, zero, suc, ◌+◌, ◌-◌, ◌≤◌, Bool, true, false, List, [], ◌∷◌, ◌++◌, length, refl}
use Rattle.std.proofs.Common.{Option, Some, None, arith, length-drop, append-nil, is_some}
use Rattle.std.proofs.lemmas.Bool.Decides.{nat_tests}
use Rattle.std.specs.Prelude.{if◌then◌else◌, nat_lt}
use Rattle.der_view.specs.Grammar.{Component, components}
use Rattle.der_view.specs.Pictures.{first_place, is_public, picture, plan_of, rest_rows, root_of, root_step, rows_as}
use Rattle.der_view.specs.Pictures.{rows_by, rows_by_way, rows_from, rules_by}
use Rattle.der_view.specs.RowLaws.{AreAt, row_len, rows_len}
use Rattle.der_view.specs.Rows.{How, Row, Step, after, after_inside, end_at, end_rows, front_len, inside, inside_bytes}
use Rattle.der_view.specs.Rows.{inside_rules, is_open, next_rows, opened_of, rest_after, rest_next, rest_of, rows_of}
use Rattle.der_view.specs.Rows.{step_at, step_rows}
use Rattle.der_view.specs.declared.grammar.Structure.{Structure}
use Rattle.der_view.specs.declared.plan.Plan.{Plan}
use Rattle.der_view.specs.declared.plan.Way.{Way}
use Rattle.der_view.specs.declared.plan.Way.TheVariants as ways
use Rattle.der_view.specs.declared.walk.Place.{Place}
use Rattle.der_view.proofs.MaskLemmas.{IsEnd, closed_content, closed_left, end_found, front_within, left, no_len}
use Rattle.der_view.proofs.MaskLemmas.{some_if}
use Rattle.der_view.proofs.StepLemmas.{BeginsWith, step_found}

rows_join : (first second : List Row) → rows_len (first ++ second) ≡ rows_len first + rows_len second
rows_join [] second = omega arith
rows_join (row ∷ first) second = omega (arith, rows_join first second)

joined : (a b : ℕ) (first second : List Row) → AreAt a first → a + rows_len first ≡ b → AreAt b second
    → AreAt a (first ++ second)
joined a b [] second one same two = let none : a ≡ b = omega arith in rw none two
joined a b (row ∷ first) second (here, one) same two =
    (here, joined (a + row_len row) b first second one (omega (arith, same)) two)

-- the rows of bytes up to a limit: in order, up to the bytes that are left, or all up to the end
record AreRows (place : Place) (limit : ℕ) (o : Option (List ℕ)) (rows : List Row) : Type 0 where
  in_order : AreAt place.offset rows
  len : place.offset + rows_len rows + left o ≡ (if is_some o then limit else place.end)

-- the rows of levels of so many elements
abbrev Inner : ℕ → Type 0
Inner most =
    (how : How) (marked : Bool) (place : Place) (some : List Component) (bytes : List ℕ) (limit : ℕ)
    → place.offset + length bytes ≡ limit → limit ≤ place.end
    → AreRows place limit (rest_of how.loose most place.depth marked some bytes)
    (rows_of how most marked place some bytes)

end_order : (marked : Bool) (place : Place) (some : List Component) (bytes : List ℕ) (n : ℕ) → IsEnd marked bytes n
    → (n ≤ length bytes) × AreAt place.offset (end_rows place some n) × (rows_len (end_rows place some n) ≡ n)
end_order marked place some bytes n is = grind (arith, nat_tests)

-- after an element that ends where what is inside it does, unless other bytes come after it
inside_len : (marked : Bool) (rest : List ℕ) (o : Option (List ℕ)) (a within limit end : ℕ)
    → a + left o ≡ (if is_some o then within else end) → (marked ≡ true → rest ≡ []) → (marked ≡ false → left o ≡ 0)
    → within + length rest ≡ limit
    → a + left (after_inside marked rest o) ≡ (if is_some (after_inside marked rest o) then limit else end)
inside_len marked rest o a within limit end len none closed more = grind arith

module _ (how : How) (most : ℕ) (place : Place) (limit : ℕ) (fits : limit ≤ place.end) (inner : Inner most)
    (some : List Component) (bytes : List ℕ) (at : place.offset + length bytes ≡ limit) where
  -- an element
  element_rows : (others : List Component) (cut misfit : Bool) (step : Step) → BeginsWith cut misfit others bytes step
      → (o : Option Structure) → opened_of how.loose most (place.depth + 1) step ≡ o
      → AreRows place limit (rest_after how.loose most (place.depth + 1) step) (step_rows how most place some step)
  element_rows others cut misfit step b None none =
      let closed = closed_content how.loose most (place.depth + 1) step b.taken none in
      rw (none, closed) (record { in_order = (refl, tt); len = omega (arith, b.len, at) })
  element_rows others cut misfit step b (Some s) is =
      let k = step.component.2 in
      let within : ℕ = place.offset + step.header.len + length step.content in
      let front = front_within how.loose most (place.depth + 1) step s is in
      let back = length-drop (front_len k) step.content in
      let known =
      inner (inside_rules how k) (is_open step) (inside place step) (components s) (inside_bytes step) within
      (omega (arith, front, back)) (omega (arith, b.len, at, fits)) in
      rw is (record {
        in_order = (refl, joined _ _ [] _ tt (omega arith) known.in_order);
        len = inside_len (is_open step) step.rest _ _ within limit place.end (omega (arith, known.len))
            (λ e. b.taken.last (no_len step.header.content_len e)) (λ e. rw e (closed_left _ _ _ _ _))
            (omega (arith, b.len, at));
      })

  -- an element, and the level after it
  next_rows_of : (marked : Bool) (step : Step) (rows : List Row) (o : Option (List ℕ)) → AreRows place limit o rows
      → AreRows place limit (rest_next (λ rest. rest_of how.loose most place.depth marked step.others rest) o)
      (rows ++ next_rows (λ rest. rows_of how most marked (after place bytes rest) step.others rest) o)
  next_rows_of marked step rows None own = rw append-nil own
  next_rows_of marked step rows (Some rest) own =
      let next : Place = after place bytes rest in
      let offset : place.offset + rows_len rows ≡ next.offset = omega (arith, own.len, at) in
      let known = inner how marked next step.others rest limit (omega (arith, own.len, at)) fits in
      record {
        in_order = joined _ _ rows _ own.in_order offset known.in_order;
        len = omega (arith, known.len, offset, rows_join rows (rows_of how most marked next step.others rest));
      }

  level_rows_of : (marked : Bool) (o : Option ℕ) (q : Option Step) → end_at how.loose marked some bytes ≡ o
      → step_at how.loose place.depth some bytes ≡ q
      → AreRows place limit (rest_of how.loose (suc most) place.depth marked some bytes)
      (rows_of how (suc most) marked place some bytes)
  unfolding step_at
  level_rows_of marked (Some n) q is next =
      let (few, order, len) = end_order marked place some bytes n (end_found how.loose marked some bytes n is) in
      rw is (record { in_order = order; len = omega (arith, length-drop n bytes, at, few, len) })
  level_rows_of marked None None is next =
      rw (is, next) (record { in_order = (refl, tt); len = omega arith })
  level_rows_of marked None (Some step) is next =
      let b = step_found _ _ some bytes step (some_if (nat_lt place.depth 64) _ step next).1 in
      rw (is, next) (next_rows_of marked step _ _ (element_rows some _ _ step b _ refl))

rows_of_len : (most : ℕ) → Inner most
rows_of_len zero how marked place some bytes limit at fits = record { in_order = (refl, tt); len = omega arith }
rows_of_len (suc most) how marked place some bytes limit at fits =
    level_rows_of how most place limit fits (rows_of_len most) some bytes at marked (end_at how.loose marked some bytes)
    (step_at how.loose place.depth some bytes) refl refl

-- ---- whole inputs

abbrev AreAll : ℕ → List Row → Type 0
AreAll len rows = (rows_len rows ≡ len) × AreAt 0 rows

rest_order : (how : How) (place : Place) (rest : List ℕ) → (rows_len (rest_rows how place rest) ≡ length rest)
    × AreAt place.offset (rest_rows how place rest)
rest_order how place rest = grind arith

from_root : (how : How) (root : Component) (public : Bool) (bytes : List ℕ) (o : Option Step) → root_step root bytes ≡ o
    → AreAll (length bytes) (rows_from how root (first_place public (length bytes)) (length bytes) o)
unfolding root_step
from_root how root public bytes None is = (omega arith, (refl, tt))
from_root how root public bytes (Some step) is =
    by_rest _ _ (element_rows how (length bytes) place (length bytes) (omega arith) (rows_of_len (length bytes))
    (root ∷ []) bytes (omega arith) (root ∷ []) true false step (step_found true false (root ∷ []) bytes step is) _
    refl)
  where
    place : Place
    place = first_place public (length bytes)

    by_rest : (rows : List Row) (o : Option (List ℕ)) → AreRows place (length bytes) o rows
        → AreAll (length bytes)
        (rows ++ next_rows (λ rest. rest_rows how (record place { offset = length bytes - length rest }) rest) o)
    by_rest rows None own = rw append-nil (omega (arith, own.len), own.in_order)
    by_rest rows (Some rest) own =
        let next : Place = record place { offset = length bytes - length rest } in
        let (len, order) = rest_order how next rest in (
          omega (arith, own.len, len, rows_join rows (rest_rows how next rest)),
          joined _ _ rows _ own.in_order (omega (arith, own.len)) order,
        )

by_way : (way : Way) (plan : Plan) (all : Bool) (bytes : List ℕ)
    → AreAll (length bytes) (rows_by_way way plan all bytes)
unfolding rows_as
by_way ways.Nothing plan all bytes = rest_order (rules_by plan all bytes) (first_place false (length bytes)) bytes
by_way way plan all bytes =
    from_root (rules_by plan all bytes) (root_of plan.form) (is_public plan) bytes
    (root_step (root_of plan.form) bytes) refl

pub picture_rows : (all : Bool) (bytes : List ℕ)
    → (rows_len (picture all bytes) ≡ length bytes) × AreAt 0 (picture all bytes)
unfolding picture rows_by
picture_rows all bytes = by_way (plan_of bytes).way (plan_of bytes) all bytes
