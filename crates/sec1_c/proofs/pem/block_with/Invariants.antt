use Rattle.std.proofs.Common.{◌≡◌, ◌+◌, ◌≤◌, length}
use Rattle.der_view.specs.Sources.{sources_of, text_len, total_len}
use Rattle.sec1_c.specs.PemBlocks.{block_with}
use Rattle.sec1_c.proofs.pem.block_with.Given as goal

abbrev pub invariant-loop-source : goal.invariant-loop-source
invariant-loop-source l = record {
  block : block_with l.label (sources_of l.text) ≡ block_with l.label l.sources;
  within : total_len l.sources ≤ text_len l.text + 2;
}

abbrev pub decreases-loop-source : goal.decreases-loop-source
decreases-loop-source l = length l.sources
