use Rattle.std.proofs.Common.{length}
use Rattle.der_view.proofs.line.Line.+push_sentence.Given as goal

abbrev pub decreases-push_sentence : goal.decreases-push_sentence
decreases-push_sentence l = length l.sentence.now
