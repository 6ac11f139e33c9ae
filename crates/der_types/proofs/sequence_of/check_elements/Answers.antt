use Rattle.std.proofs.Common.{arith}
use Rattle.der_types.proofs.SequenceLemmas.{sequence_continues, values_read, value_there}
use Rattle.der_types.proofs.sequence_of.check_elements.Goals as goal

pub loop-elements-preserved : goal.loop-elements-preserved
loop-elements-preserved g c =
    let at = c.loop-elements.invariant.rest in
    record {
      rest = sequence_continues _ _ _ _ _ _ at (omega (arith, c.loop-elements-test.true, c.remaining_len.ensures))
          c.in_ok-_value.ensures.found;
      values = values_read _ _ _ _ _ _ _ c.loop-elements.invariant.values
          (omega (arith, c.loop-elements-test.true, c.remaining_len.ensures)) at.whole
          c.in_ok-_value.ensures.found
          (λ a inside left same within is.
          (c.in_ok-_value.ensures.only a inside left same within is).1);
    }

pub returns-in_err-_value-clause-only : goal.returns-in_err-_value-clause-only
returns-in_err-_value-clause-only g c values same =
    let at = c.loop-elements.invariant.rest in
    absurd (value_there _ _ _ _ ⊥ c.loop-elements.invariant.values
    (omega (arith, c.loop-elements-test.true, c.remaining_len.ensures)) at.whole (values, same)
    (λ a inside left same within is.
    (c.in_err-_value.ensures.only a inside left same within is).0))
