use Rattle.std.proofs.Common.{◌≡◌, ◌-◌, ◌+◌, ◌≤◌, length, false}
use Rattle.sec1.specs.Der.{Takes}
use Rattle.sec1_inspect.specs.Report.{limit}
use Rattle.sec1_inspect.proofs.read_input.Given as goal

abbrev pub invariant-loop-input : goal.invariant-loop-input
invariant-loop-input g l =
    Takes g.R.Read.left g.R.Read.taken l.initial.reader l.reader l.input.items
    × (g.R.Read.failed l.reader ≡ false)
    × (length l.input.items ≤ limit + 1)

abbrev pub decreases-loop-input : goal.decreases-loop-input
decreases-loop-input g l = limit + 1 - length l.input.items
