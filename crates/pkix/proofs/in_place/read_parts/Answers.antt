use Rattle.std.proofs.Common.{[], refl, append-nil, rules, arith}
use Rattle.std.proofs.lemmas.Bool.{false≢true}
use Rattle.std.proofs.lemmas.Grind.{common_steps}
use Rattle.sec1_der.proofs.FaultLaws.{read_end, reader_at}
use Rattle.pkix.proofs.in_place.read_parts.Goals as goal

pub returns-in-Err : goal.returns-in-Err
returns-in-Err g c = record {
  found = grind (arith, common_steps);
  read = grind (arith, common_steps);
  only = λ fresh part is.
      absurd (c.in-Err.ensures.only part _ [] c.requires.distinct is tt
      (rw append-nil (reader_at _ _ refl fresh))).0;
  kinds = search rules;
  kind = search rules;
  failed = search rules;
  refused = search rules;
}

pub returns-in-Err-finish : goal.returns-in-Err-finish
returns-in-Err-finish g c = record {
  found = grind (arith, common_steps);
  read = grind (arith, common_steps);
  only = λ fresh part is.
      absurd (false≢true
      (c.in-Err-finish.ensures.only
      (c.in-Ok.ensures.only part _ [] c.requires.distinct is tt
      (rw append-nil (reader_at _ _ refl fresh))).1));
  kinds = search rules;
  kind = search rules;
  failed = search rules;
  refused = let left = read_end _ _ _ c.in-Ok.ensures.exact.0 in search rules;
}
