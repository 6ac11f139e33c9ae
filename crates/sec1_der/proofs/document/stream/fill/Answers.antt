use Rattle.std.proofs.Common.{arith, rules}
use Rattle.std.proofs.lemmas.Grind.{common_steps}
use Rattle.sec1_der.proofs.StreamLemmas.{reads_part}
use Rattle.sec1_der.proofs.document.stream.fill.Goals as goal

pub loop-count-preserved : goal.loop-count-preserved
loop-count-preserved g c =
    let inside = c.loop-count.invariant.few in
    let read = c.in_ok-more.ensures in
    record {
      taken = reads_part g.R.Read.left g.R.Read.taken _ _ _ _ _ _ _ _ inside (omega (arith, read.bound))
          c.loop-count.invariant.taken (record { consumed = read.bytes.0; appended = read.taken });
      few = grind (arith, common_steps);
      unfailed = search rules;
    }
