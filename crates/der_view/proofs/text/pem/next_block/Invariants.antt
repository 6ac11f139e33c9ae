use Rattle.std.proofs.Common.{◌≡◌, ◌+◌, ◌≤◌, length}
use Rattle.der_view.specs.Blocks.{blocks_in}
use Rattle.der_view.proofs.text.pem.next_block.Given as goal

abbrev pub invariant-loop-rest : goal.invariant-loop-rest
invariant-loop-rest l = record {
  same : blocks_in l.begins l.line l.rest ≡ blocks_in l.starts l.number l.text;
  size : l.line + length l.rest ≤ l.number + length l.text;
}

abbrev pub decreases-loop-rest : goal.decreases-loop-rest
decreases-loop-rest l = length l.rest
