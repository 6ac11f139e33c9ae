use Rattle.std.proofs.Common.{refl, rules}
use Rattle.der_types.proofs.ChoiceLemmas.{next_found, present_next, absent_next}
use Rattle.der_types.proofs.optional_part.OptionalPartDecodePart.decode_part.Goals as goal

pub returns-then-is_absent : goal.returns-then-is_absent
returns-then-is_absent g c = record {
  exact = search rules;
  only = λ part whole rest distinct same may is.
      let next = next_found g.P.Part.tags _ _ _ _ c.is_absent.ensures c.if-is_absent.true is in
      let none = absent_next g.P.Part.tags _ g.met.P.Alternative.never_empty g.P.Part.begins
      part whole rest same next in
      (rw none refl, rw none at is);
}

pub returns-in_err-decode_part : goal.returns-in_err-decode_part
returns-in_err-decode_part g c = record {
  exact = search rules;
  only = λ part whole rest distinct same may is.
      let next = next_found g.P.Part.tags _ _ _ _ c.is_absent.ensures c.if-is_absent.false is in
      let at = present_next g.P.Part.tags _ part whole rest distinct same may next in
      absurd (c.in_err-decode_part.ensures.only at.part whole rest at.distinct at.same at.may is).0;
}

pub returns : goal.returns
returns g c = record {
  exact = search rules;
  only = λ part whole rest distinct same may is.
      let next = next_found g.P.Part.tags _ _ _ _ c.is_absent.ensures c.if-is_absent.false is in
      let at = present_next g.P.Part.tags _ part whole rest distinct same may next in
      c.in_ok-decode_part.ensures.only at.part whole rest at.distinct at.same at.may is;
}
