use Rattle.std.proofs.Common.{◌≡◌, drop}
use Rattle.der_view.specs.Names.{names_of}
use Rattle.der_view.proofs.names.names_of.Given as goal

abbrev pub invariant-loop-row : goal.invariant-loop-row
invariant-loop-row l = names_of l.rows l.names l.number ≡ names_of (drop l.row-index l.rows) l.left l.number
