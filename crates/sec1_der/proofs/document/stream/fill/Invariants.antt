use Rattle.std.proofs.Common.{◌≡◌, ◌≤◌, ◌-◌, length, take, false}
use Rattle.sec1_der.specs.Streams.{Takes}
use Rattle.sec1_der.proofs.document.stream.fill.Given as goal

abbrev pub invariant-loop-count : goal.invariant-loop-count
invariant-loop-count g l = record {
  taken : Takes g.R.Read.left g.R.Read.taken l.initial.reader l.reader (take l.count l.buf);
  few : l.count ≤ length l.buf;
  unfailed : g.R.Read.failed l.reader ≡ false;
}

abbrev pub decreases-loop-count : goal.decreases-loop-count
decreases-loop-count g l = length l.buf - l.count
