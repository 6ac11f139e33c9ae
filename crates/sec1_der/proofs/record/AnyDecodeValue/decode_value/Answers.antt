use Rattle.std.proofs.Common.{[], refl, append-nil, rules}
use Rattle.std.proofs.lemmas.Bool.{false≢true}
use Rattle.sec1_der.proofs.FaultLaws.{read_end, reader_at}
use Rattle.sec1_der.proofs.record.AnyDecodeValue.decode_value.Goals as goal

pub returns-in_err-parts : goal.returns-in_err-parts
returns-in_err-parts g c = record {
  found = search rules;
  read = search rules;
  only = λ fresh value is.
      absurd (c.in_err-parts.ensures.only (g.T.Record.parts value) _ [] g.met.T.Distinct.distinct is tt
      (rw append-nil (reader_at _ _ refl fresh))).0;
  kinds = search rules;
  kind = search rules;
  failed = search rules;
  refused = search rules;
}

pub returns-in_err-finish : goal.returns-in_err-finish
returns-in_err-finish g c = record {
  found = search rules;
  read = search rules;
  only = λ fresh value is.
      absurd (false≢true
      (c.in_err-finish.ensures.only
      (c.in_ok-parts.ensures.only (g.T.Record.parts value) _ [] g.met.T.Distinct.distinct is tt
      (rw append-nil (reader_at _ _ refl fresh))).1));
  kinds = search rules;
  kind = search rules;
  failed = search rules;
  refused = let left = read_end _ _ _ c.in_ok-parts.ensures.exact.0 in search rules;
}
