use Rattle.examples.proofs.NumberLemmas.{reads_set}
use Rattle.examples.proofs.callers.numbers.sum_of_set.Goals as goal

pub returns-in_err-set-clause-only : goal.returns-in_err-set-clause-only
returns-in_err-set-clause-only c = λ numbers is.
    let (content, same, whole) = reads_set numbers c.args.bytes.now is in
    absurd (cc (c.in_err-set.ensures.only content whole))

pub returns-clause-only : goal.returns-clause-only
returns-clause-only c = λ numbers is.
    let (content, same, whole) = reads_set numbers c.args.bytes.now is in
    let read = c.in_ok-set.ensures.only content whole in
    c.sum_of.ensures.only numbers (cc)
