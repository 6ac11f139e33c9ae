-- The rows of a level, one element at a time.
use Rattle.std.proofs.Common.{◌≡◌, ◌<◌, ◌+◌, ℕ, zero, suc, List, [], ◌∷◌, ◌++◌, refl, arith, Bool, true, Some, Option}
use Rattle.std.proofs.Common.{None, drop, take, length, length-drop, ◌-◌}
use Rattle.std.proofs.lemmas.List.{take_all}
use Rattle.der_view.specs.Grammar.{Component, components}
use Rattle.der_view.specs.Pictures.{level_rest, level_rows, told}
use Rattle.der_view.specs.Rows.{Element, How, Row, Step, after, end_at, end_rows, front_len, inside_loose, is_open}
use Rattle.der_view.specs.Rows.{next_rows, opened_of, rest_after, rest_next, rest_of, rows_of, step_at, step_rows, view}
use Rattle.der_view.specs.declared.grammar.Structure.{Structure}
use Rattle.der_view.specs.declared.walk.Level.{Level}
use Rattle.der_view.specs.declared.walk.Place.{Place}

told-append : (trial : Bool) (first second : List Row) → told trial (first ++ second)
    ≡ told trial first ++ told trial second
told-append trial first second = grind arith

pub told-none : (trial : Bool) → told trial [] ≡ []
told-none trial = grind arith

-- of an element whose content is rows: its own, and those inside it
pub opened_step : {D : Type 0} (T : D → D → List Row → Type 0)
    (joined : (a b c : D) (x y : List Row) → T a b x → T b c y → T a c (x ++ y)) (how : How) (most : ℕ)
    (place : Place) (some cs : List Component) (step : Step) (s : Structure) (trial marked is_rows loose : Bool)
    (front : ℕ) (a b c d : D) → opened_of how.loose most (place.depth + 1) step ≡ Some s → is_rows ≡ true
    → marked ≡ is_open step → loose ≡ inside_loose step.component.2 how.loose → front ≡ front_len step.component.2
    → cs ≡ components s → T a b [] → T b c (told trial (Element place (view how place some is_rows step) ∷ []))
    → T c d (told trial (rows_of (record how { loose = loose }) most marked
    (record place { offset = place.offset + step.header.len + front; depth = place.depth + 1 }) cs
    (take (length step.content - front) (drop front step.content))))
    → T a d (told trial (step_rows how most place some step))
opened_step T joined how most place some cs step s trial marked is_rows loose front a b c d opened rows e f h i
    one two three =
    let own = rw rows at two in
    let all : take (length step.content - front) (drop front step.content) ≡ drop front step.content =
    take_all (length step.content - front) (drop front step.content) (omega (arith, length-drop front step.content)) in
    let within = rw (all, e, f, h, i) at three in
    rw (opened, told-append trial (Element place (view how place some true step) ∷ []) _)
    (joined a b d [] _ one (joined b c d _ _ own within))

pub level_end : (how : How) (most : ℕ) (place : Place) (level : Level) (n : ℕ) → 0 < most
    → end_at how.loose level.is_open level.components.now level.bytes.now ≡ Some n
    → level_rows how most place level ≡ told level.is_trial (end_rows place level.components.now n)
level_end how zero place level n positive is = absurd (omega (arith, positive))
level_end how (suc most) place level n positive is = rw is refl

-- no element more
pub level_stop : (how : How) (most : ℕ) (place : Place) (level : Level)
    → (0 < most → (end_at how.loose level.is_open level.components.now level.bytes.now ≡ None)
    × (step_at how.loose place.depth level.components.now level.bytes.now ≡ None))
    → (level_rows how most place level ≡ level_rows how 0 place level)
    × (level_rest how.loose most place.depth level ≡ None)
level_stop how zero place level stop = (refl, refl)
level_stop how (suc most) place level stop =
    let is = stop (omega arith) in (rw (is.0, is.1) refl, rw (is.0, is.1) refl)

-- one element more, with these bytes after it or none
pub record IsNext (how : How) (most few : ℕ) (place : Place) (level : Level) (step : Step) (o : Option (List ℕ))
    : Type 0 where
  pub fewer : most ≡ suc few
  pub goes : end_at how.loose level.is_open level.components.now level.bytes.now ≡ None
  pub is : step_at how.loose place.depth level.components.now level.bytes.now ≡ Some step
  pub after : rest_after how.loose few (place.depth + 1) step ≡ o

pub level_next : {how : How} {most few : ℕ} {place : Place} {level : Level} {step : Step} {o : Option (List ℕ)}
    → IsNext how most few place level step o
    → (level_rows how most place level ≡ told level.is_trial (step_rows how few place level.components.now step)
    ++ told level.is_trial
    (next_rows (λ rest. rows_of how few level.is_open (after place level.bytes.now rest) step.others rest) o))
    × (level_rest how.loose most place.depth level
    ≡ rest_next (λ rest. rest_of how.loose few place.depth level.is_open step.others rest) o)
level_next {how} {most} {few} {place} {level} {step} next = (
  rw (next.fewer, next.goes, next.is, next.after)
      (told-append level.is_trial (step_rows how few place level.components.now step) _),
  rw (next.fewer, next.goes, next.is, next.after) refl,
)
