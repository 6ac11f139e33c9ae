use Rattle.std.proofs.Common.{arith}
use Rattle.sec1.proofs.ByteOrderLemmas.{word_steps}
use Rattle.sec1.proofs.DigitLemmas.{IsBytes-drop}
use Rattle.sec1.proofs.point.order.words_cmp.Goals as goal

pub loop-word-preserved : goal.loop-word-preserved
loop-word-preserved c = record {
  order = grind (arith, word_steps);
  bytes = rw c.in-Some.ensures.cases.1 (IsBytes-drop 8 c.loop-word.rest.now c.loop-word.invariant.bytes);
  other_bytes = rw c.in-Some-split_first_chunk.ensures.cases.1
      (IsBytes-drop 8 c.loop-word.other_rest.now c.loop-word.invariant.other_bytes);
}
