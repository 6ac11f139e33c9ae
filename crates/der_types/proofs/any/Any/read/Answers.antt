use Rattle.std.proofs.Common.{ap, ◌∙◌, refl, rules}
use Rattle.sec1_der.specs.Readers.{Reader}
use Rattle.der_types.proofs.AnyLemmas.{element_from, any_some, any_there, any_passes, any_refused}
use Rattle.der_types.proofs.any.Any.read.Goals as goal

pub invariant_of-result : goal.invariant_of-result
invariant_of-result c =
    let found = c.in-Ok.ensures.found in (
      found.0,
      (
        c.read_since.ensures _
            (c.remaining_input-input.ensures ∙ ap (λ (r : Reader). r.unread) found.1.was_unfailed),
        tt,
      ),
    )

pub returns-in-Err : goal.returns-in-Err
returns-in-Err c = record {
  exact = (
    search rules,
    search rules,
    λ after. any_refused after _ _ (c.in-Err.ensures.refused.kind c.requires),
    search rules,
  );
  only = λ part whole rest distinct same may is.
      let element = (any_some part whole same).1 in
      absurd (c.in-Err.ensures.only element.tag element.content rest element.is_header
      (rw element.encoded at is)).0;
}

pub returns-in-Ok : goal.returns-in-Ok
returns-in-Ok c =
    let found = c.in-Ok.ensures.found in
    let element = element_from c.in-Ok.inside _ found.0 refl in
    let passes = any_passes _ _ _ element found.1 in
    record {
      exact = search (rules, any_there);
      only = λ part whole rest distinct same may is.
          let element = (any_some part whole same).1 in
          let read = c.in-Ok.ensures.only element.tag element.content rest element.is_header
          (rw element.encoded at is) in
          search (rules, any_there);
    }
