use Rattle.std.proofs.Common.{◌≡◌, ◌≤◌, ◌-◌, take, false}
use Rattle.sec1_der.specs.Streams.{Takes}
use Rattle.sec1_der.proofs.document.stream.read_header.Given as goal
use Rattle.sec1_der.proofs.StreamLemmas.{IsReachable}

abbrev pub invariant-loop-header : goal.invariant-loop-header
invariant-loop-header g l = record {
  taken : Takes g.R.Read.left g.R.Read.taken l.initial.reader l.reader (take l.count l.octets);
  reached : IsReachable (take l.count l.octets);
  few : l.count ≤ 6;
  unfailed : g.R.Read.failed l.reader ≡ false;
}

abbrev pub decreases-loop-header : goal.decreases-loop-header
decreases-loop-header g l = 6 - l.count
