use Rattle.std.proofs.Common.{rules}
use Rattle.sec1_der.proofs.PartLemmas.{optional_passes}
use Rattle.pkix.proofs.in_place.OptionalReadInPlace.read_in_place.Goals as goal

pub returns-in-Ok : goal.returns-in-Ok
returns-in-Ok g c = record {
  exact = (
    search rules,
    optional_passes g.A.ValueContent.fault _ _ _ _ c.in-Ok.ensures.found,
  );
  only = search rules;
}
