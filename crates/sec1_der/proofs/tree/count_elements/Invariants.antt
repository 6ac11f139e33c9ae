use Rattle.std.proofs.Common.{◌+◌, ◌-◌, ◌*◌, length}
use Rattle.sec1_der.proofs.CheckLemmas.{Walks}
use Rattle.sec1_der.proofs.tree.count_elements.Given as goal

abbrev pub invariant-loop-nodes : goal.invariant-loop-nodes
invariant-loop-nodes l = Walks l.input l.nodes l.rest l.count

abbrev pub decreases-loop-nodes : goal.decreases-loop-nodes
decreases-loop-nodes l = 2 * (length l.input - l.count) + length l.nodes
