use Rattle.std.proofs.Common.{length}
use Rattle.der_view.proofs.drawing.+write_sentences.Given as goal

abbrev pub decreases-write_sentences : goal.decreases-write_sentences
decreases-write_sentences g l = length l.sentences.now
