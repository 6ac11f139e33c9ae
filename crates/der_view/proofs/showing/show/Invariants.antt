use Rattle.std.proofs.Common.{◌≡◌, ◌+◌, ◌≤◌, ◌++◌, ◌||◌, length, take, true}
use Rattle.std.specs.List.{flat_map}
use Rattle.der_view.specs.Drawings.{decoded_of, some_key, sources_lines}
use Rattle.der_view.specs.Printing.{are_plain}
use Rattle.der_view.specs.Sources.{sources_of, text_len, total_len}
use Rattle.der_view.proofs.showing.show.Given as goal

abbrev pub invariant-loop-source : goal.invariant-loop-source
invariant-loop-source g l = record {
  room : l.used + total_len l.sources ≤ text_len l.input + 2;
  within : l.used ≤ length l.bytes;
  decoded : take l.used l.bytes ++ flat_map decoded_of l.sources ≡ flat_map decoded_of (sources_of l.input);
  drawn :
      are_plain l.options ≡ true
      → (end : _) → g.W.Output.appends l.writer end (sources_lines l.options.all l.used l.sources)
      → g.W.Output.appends l.initial.writer end (sources_lines l.options.all 0 (sources_of l.input));
  key : l.options.offset ≡ 0 → some_key (sources_of l.input) ≡ (l.has_key || some_key l.sources);
}

abbrev pub decreases-loop-source : goal.decreases-loop-source
decreases-loop-source g l = length l.sources
