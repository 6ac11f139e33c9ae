use Rattle.std.proofs.Common.{rules}
use Rattle.sec1_der.proofs.FaultLaws.{reads_on}
use Rattle.sec1_der.proofs.KindLaws.{refused_more}
use Rattle.pkix.proofs.in_place.RequiredReadInPlace.read_in_place.Goals as goal

pub returns-in-Err : goal.returns-in-Err
returns-in-Err g c = record {
  exact = (
    search rules,
    search rules,
    λ rest. refused_more g.A.ValueContent.fault rest g.A.Tagged.tag_byte c.args.reader.now.unread _
        (c.in-Err.ensures.refused.kind c.requires.0),
    search rules,
  );
  only = search rules;
}

pub returns-in-Ok : goal.returns-in-Ok
returns-in-Ok g c = record {
  exact = (
    search rules,
    (reads_on g.A.ValueContent.fault _ _ _ _ c.in-Ok.ensures.found).next,
  );
  only = search rules;
}
