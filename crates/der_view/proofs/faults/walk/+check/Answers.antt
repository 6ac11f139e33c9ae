use Rattle.std.proofs.Common.{rules, ◌+◌, ◌-◌, arith, length}
use Rattle.std.proofs.lemmas.Grind.{common_steps}
use Rattle.der_view.proofs.faults.walk.+check.Goals as goal

pub check-loop-components-init : goal.check-loop-components-init
check-loop-components-init t c = (
  length c.args.components.now + length c.args.bytes.now,
  omega arith,
  grind (arith, common_steps),
  omega arith,
)

pub check-loop-components-preserved-then-comes : goal.check-loop-components-preserved-then-comes
check-loop-components-preserved-then-comes t c = (
  c.loop-components.invariant.0 - 1,
  omega (arith, c.in_ok-tag.ensures.within.0, c.after-components.ensures.within),
  grind (arith, common_steps, c.loop-components.invariant.2, c.in_ok-tag.ensures.found, c.in_ok-check_content.ensures),
  search rules,
)

pub check-loop-components-preserved : goal.check-loop-components-preserved
check-loop-components-preserved t c = (
  c.loop-components.invariant.0 - 1,
  grind (arith, common_steps),
  grind (arith, common_steps, c.loop-components.invariant.2),
  search rules,
)
