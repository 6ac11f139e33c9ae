use Rattle.std.proofs.Common.{refl}
use Rattle.der_view.proofs.SourceLemmas.{sources_within}
use Rattle.sec1_c.proofs.pem.block_with.Goals as goal

pub loop-source-init : goal.loop-source-init
loop-source-init c = record {
  block = rw c.new-sources.ensures refl;
  within = rw c.new-sources.ensures (sources_within c.args.text.now);
}
