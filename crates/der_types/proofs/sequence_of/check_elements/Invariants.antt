use Rattle.std.proofs.Common.{length}
use Rattle.der_types.proofs.SequenceLemmas.{IsSequenceRest, AreValues}
use Rattle.der_types.proofs.sequence_of.check_elements.Given as goal

abbrev pub invariant-loop-elements : goal.invariant-loop-elements
invariant-loop-elements g l = record {
  rest : IsSequenceRest g.T.Tagged.tag_byte g.T.ValueContent.fault l.bytes l.elements;
  values : AreValues g.T.Tagged.tag_byte g.T.ValueContent.content l.bytes l.elements.unread;
}

abbrev pub decreases-loop-elements : goal.decreases-loop-elements
decreases-loop-elements g l = length l.elements.unread
