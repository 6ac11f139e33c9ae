use Rattle.std.proofs.Common.{length}
use Rattle.sec1_c.proofs.identifier.arcs.+put_arcs.Given as goal

abbrev pub decreases-put_arcs : goal.decreases-put_arcs
decreases-put_arcs l = length l.left
