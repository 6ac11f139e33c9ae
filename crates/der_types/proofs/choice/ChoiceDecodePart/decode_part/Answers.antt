use Rattle.std.proofs.Common.{rules}
use Rattle.der_types.proofs.ChoiceLemmas.{next_found, first_next, second_next}
use Rattle.der_types.proofs.choice.ChoiceDecodePart.decode_part.Goals as goal

pub returns-in_err-decode_part : goal.returns-in_err-decode_part
returns-in_err-decode_part g c = record {
  exact = search rules;
  only = λ part whole rest distinct same may is.
      let next = next_found g.P.Part.tags _ _ _ _ c.is_absent.ensures c.if-is_absent.true is in
      let at = second_next g.P.Part.tags g.Q.Part.tags _ _ g.met.P.Alternative.never_empty g.P.Part.begins
      part whole rest distinct same may next in
      absurd (c.in_err-decode_part.ensures.only at.part whole rest at.distinct at.same at.may is).0;
}

pub returns-then-is_absent : goal.returns-then-is_absent
returns-then-is_absent g c = record {
  exact = search rules;
  only = λ part whole rest distinct same may is.
      let next = next_found g.P.Part.tags _ _ _ _ c.is_absent.ensures c.if-is_absent.true is in
      let at = second_next g.P.Part.tags g.Q.Part.tags _ _ g.met.P.Alternative.never_empty g.P.Part.begins
      part whole rest distinct same may next in
      c.in_ok-decode_part.ensures.only at.part whole rest at.distinct at.same at.may is;
}

pub returns-in_err-decode_part-2 : goal.returns-in_err-decode_part-2
returns-in_err-decode_part-2 g c = record {
  exact = search rules;
  only = λ part whole rest distinct same may is.
      let next = next_found g.P.Part.tags _ _ _ _ c.is_absent.ensures c.if-is_absent.false is in
      let at = first_next g.P.Part.tags g.Q.Part.tags _ _ g.met.Q.Alternative.never_empty g.Q.Part.begins
      part whole rest distinct same may next in
      absurd (c.in_err-decode_part-2.ensures.only at.part whole rest at.distinct at.same at.may is).0;
}

pub returns : goal.returns
returns g c = record {
  exact = search rules;
  only = λ part whole rest distinct same may is.
      let next = next_found g.P.Part.tags _ _ _ _ c.is_absent.ensures c.if-is_absent.false is in
      let at = first_next g.P.Part.tags g.Q.Part.tags _ _ g.met.Q.Alternative.never_empty g.Q.Part.begins
      part whole rest distinct same may next in
      c.in_ok-decode_part-2.ensures.only at.part whole rest at.distinct at.same at.may is;
}
