use Rattle.std.proofs.Common.{◌≡◌, ◌+◌, length}
use Rattle.der_view.specs.Blocks.{is_at, len_before}
use Rattle.der_view.proofs.text.pem.cut.Given as goal

abbrev pub invariant-loop-rest : goal.invariant-loop-rest
invariant-loop-rest l = record {
  same : l.place + len_before (is_at l.sought) l.begins l.rest ≡ len_before (is_at l.sought) l.starts l.text;
  size : l.place + length l.rest ≡ length l.text;
}

abbrev pub decreases-loop-rest : goal.decreases-loop-rest
decreases-loop-rest l = length l.rest
