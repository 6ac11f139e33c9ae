use Rattle.std.proofs.Common.{rules, ◌≡◌, ◌+◌, ◌-◌, ◌≤◌, ◌<◌, ◌∙◌, [], length, false, Bool, Some, None, sym, arith}
use Rattle.std.proofs.Common.{append-nil}
use Rattle.std.proofs.lemmas.Bool.Decides.{nat_tests}
use Rattle.der_view.specs.Rows.{Row, end_at, opened_of, rules_of, step_at, step_of}
use Rattle.der_view.specs.declared.walk.Level.{Level}
use Rattle.der_view.proofs.WalkLemmas.{IsNext, level_end, level_next, level_stop, opened_step, told-none}
use Rattle.der_view.proofs.walk.+walks.Goals.{walk-else-loop-most-test}
use Rattle.der_view.proofs.walk.+walks.Goals.{walk-then-loop-most-test+in_default+then-place-ge-MOST_LEVELS}
use Rattle.der_view.proofs.walk.+walks.Goals.{walk-then-loop-most-test+in_default+else-place-ge-MOST_LEVELS+in_default-step_by}
use Rattle.der_view.proofs.walk.+walks.Goals as goal

pub draw_step-returns-in_default-clause-rows : goal.draw_step-returns-in_default-clause-rows
draw_step-returns-in_default-clause-rows g t c =
    let none : opened_of c.args.rules.now.is_loose c.args.most (c.args.place.depth + 1) (step_of c.args.step.now) ≡ None
    = search rules in
    let closed : c.is_some.result ≡ false = search rules in
    rw none (g.met.R.Rows.joined c.args.rows.now c.opened_of-opened.new.rows c.draw_element.new.rows [] _
    c.opened_of-opened.ensures.rows (rw closed at c.draw_element.ensures))

pub draw_step-returns-in_err-after-clause-rows : goal.draw_step-returns-in_err-after-clause-rows
draw_step-returns-in_err-after-clause-rows g t c =
    opened_step (λ a b r. g.R.Rows.tells a b r) g.met.R.Rows.joined (rules_of c.args.rules.now) c.args.most c.args.place
    c.args.level.now.components.now c.components.result.now (step_of c.args.step.now) c.in-Some.structure
    c.args.level.now.is_trial c.is_none-is_open.result c.is_some.result c.in-Some.is_loose c.in-Some.front
    c.args.rows.now c.opened_of-opened.new.rows c.draw_element.new.rows c.walk.new.rows (search rules) (search rules)
    (search rules) (search rules) (search rules) c.components.ensures c.opened_of-opened.ensures.rows
    c.draw_element.ensures c.walk.ensures.rows

pub draw_step-returns-clause-rows : goal.draw_step-returns-clause-rows
draw_step-returns-clause-rows g t c =
    opened_step (λ a b r. g.R.Rows.tells a b r) g.met.R.Rows.joined (rules_of c.args.rules.now) c.args.most c.args.place
    c.args.level.now.components.now c.components.result.now (step_of c.args.step.now) c.in-Some.structure
    c.args.level.now.is_trial c.is_none-is_open.result c.is_some.result c.in-Some.is_loose c.in-Some.front
    c.args.rows.now c.opened_of-opened.new.rows c.draw_element.new.rows c.walk.new.rows (search rules) (search rules)
    (search rules) (search rules) (search rules) c.components.ensures c.opened_of-opened.ensures.rows
    c.draw_element.ensures c.walk.ensures.rows

pub walk-returns-in-Some-clause-rows : goal.walk-returns-in-Some-clause-rows
walk-returns-in-Some-clause-rows g t c =
    let level : Level = c.loop-most.level in
    let positive : 0 < c.loop-most.most = search rules in
    let is : end_at c.args.rules.now.is_loose level.is_open level.components.now level.bytes.now ≡ Some c.in-Some.len =
    search rules in
    c.loop-most.invariant.0 c.draw_end.new.rows
    (rw (level_end (rules_of c.args.rules.now) c.loop-most.most c.loop-most.place level c.in-Some.len positive is)
    c.draw_end.ensures)

pub walk-returns-in_err-rest : goal.walk-returns-in_err-rest
unfolding step_at
walk-returns-in_err-rest g t c =
    let next : IsNext (rules_of c.args.rules.now) c.loop-most.most (c.loop-most.most - 1) c.loop-most.place
    c.loop-most.level (step_of c.in-Some-step_by.step) None =
    record { fewer = omega arith; goes = search rules; is = grind (arith, nat_tests); after = search rules } in
    let last = level_next next in
    let residual : c.from_residual.result ≡ None = search rules in
    record {
      rows = c.loop-most.invariant.0 c.draw_step.new.rows
          (rw (last.0, told-none c.loop-most.level.is_trial, append-nil {A = Row})
          c.draw_step.ensures.rows);
      rest = rw residual (sym (c.loop-most.invariant.1 ∙ last.1));
      len = search rules;
    }

pub walk-loop-most-preserved : goal.walk-loop-most-preserved
unfolding step_at
walk-loop-most-preserved g t c =
    let next : IsNext (rules_of c.args.rules.now) c.loop-most.most (c.loop-most.most - 1) c.loop-most.place
    c.loop-most.level (step_of c.in-Some-step_by.step) (Some c.in_ok-rest.rest.now) =
    record { fewer = omega arith; goes = search rules; is = grind (arith, nat_tests); after = search rules } in
    let more = level_next next in
    let old = c.loop-most.invariant in
    let within : length c.in_ok-rest.rest.now ≤ length c.loop-most.level.bytes.now = search rules in (
      λ final told'. old.0 final (rw more.0 (g.met.R.Rows.joined c.loop-most.rows c.draw_step.new.rows final _ _
          c.draw_step.ensures.rows told')),
      old.1 ∙ more.1,
      omega (arith, old.2),
      omega (arith, old.3, within),
      omega (arith, old.4, within),
    )

pub walk-returns : goal.walk-returns
unfolding step_at
walk-returns g t c =
    let loose : Bool = c.args.rules.now.is_loose in
    let level : Level = c.loop-most.level in
    let stops : 0 < c.loop-most.most → (end_at loose level.is_open level.components.now level.bytes.now ≡ None)
    × (step_at loose c.loop-most.place.depth level.components.now level.bytes.now ≡ None) =
    elim c.loop-most-test.branch [
      | walk-else-loop-most-test w ↦ λ positive. absurd (omega arith)
      | walk-then-loop-most-test+in_default+then-place-ge-MOST_LEVELS w ↦ λ positive.
          (search rules, grind (arith, nat_tests))
      | walk-then-loop-most-test+in_default+else-place-ge-MOST_LEVELS+in_default-step_by w ↦ λ positive.
          (search rules, grind (arith, nat_tests))
    ] in
    let stop = level_stop (rules_of c.args.rules.now) c.loop-most.most c.loop-most.place level stops in
    record {
      rows = c.loop-most.invariant.0 c.draw_left.new.rows (rw stop.0 c.draw_left.ensures);
      rest = sym (c.loop-most.invariant.1 ∙ stop.1);
      len = tt;
    }
