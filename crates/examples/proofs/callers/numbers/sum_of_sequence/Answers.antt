use Rattle.examples.proofs.NumberLemmas.{reads_sequence}
use Rattle.examples.proofs.callers.numbers.sum_of_sequence.Goals as goal

pub returns-in_err-sequence-clause-only : goal.returns-in_err-sequence-clause-only
returns-in_err-sequence-clause-only c = λ numbers is.
    let (content, same, whole) = reads_sequence numbers c.args.bytes.now is in
    absurd (cc (c.in_err-sequence.ensures.only content whole))

pub returns-clause-only : goal.returns-clause-only
returns-clause-only c = λ numbers is.
    let (content, same, whole) = reads_sequence numbers c.args.bytes.now is in
    let read = c.in_ok-sequence.ensures.only content whole in
    c.sum_of.ensures.only numbers (cc)
