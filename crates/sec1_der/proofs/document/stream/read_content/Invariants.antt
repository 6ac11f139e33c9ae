use Rattle.std.proofs.Common.{◌≡◌, ◌≤◌, ◌-◌, false}
use Rattle.sec1_der.specs.Streams.{ReadsOnto, Takes}
use Rattle.sec1_der.proofs.document.stream.read_content.Given as goal

abbrev pub invariant-loop-missing : goal.invariant-loop-missing
invariant-loop-missing g l = record {
  read : ReadsOnto (Takes g.R.Read.left g.R.Read.taken l.initial.reader l.reader) l.initial.bytes.items l.bytes.items
      (l.announced - l.missing);
  few : l.missing ≤ l.announced;
  unfailed : g.R.Read.failed l.reader ≡ false;
}

abbrev pub decreases-loop-missing : goal.decreases-loop-missing
decreases-loop-missing g l = l.missing
