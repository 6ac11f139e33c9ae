use Rattle.std.proofs.Common.{rules, ◌≡◌, Some, length}
use Rattle.der_view.specs.Pictures.{root_step, rows_as}
use Rattle.der_view.specs.Rows.{Step, rest_after, step_of}
use Rattle.der_view.proofs.root.draw_as.Goals as goal

pub returns-in-Some-draw_step-clause-rows : goal.returns-in-Some-draw_step-clause-rows
unfolding root_step rows_as
returns-in-Some-draw_step-clause-rows g c =
    let step : Step = step_of c.in-Some.step in
    let is : root_step c.args.root c.args.bytes.now ≡ Some step = search rules in
    let some : rest_after c.args.rules.now.is_loose (length c.args.bytes.now) 1 step
    ≡ Some c.in-Some-draw_step.rest.now = search rules in
    rw (is, some) (g.met.R.Rows.joined c.args.rows.now c.draw_step.new.rows c.draw_rest.new.rows _ _
    c.draw_step.ensures.rows c.draw_rest.ensures)
