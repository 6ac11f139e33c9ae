use Rattle.std.proofs.Common.{rules}
use Rattle.sec1_der.proofs.FaultLaws.{reads_on}
use Rattle.sec1_der.proofs.KindLaws.{refused_more}
use Rattle.sec1_der.proofs.required.RequiredDecodePart.decode_part.Goals as goal

pub returns-in-Err : goal.returns-in-Err
returns-in-Err g c =
    search (rules, refused_more g.A.ValueContent.fault, c.in-Err.ensures.refused.kind)

pub returns-in-Ok : goal.returns-in-Ok
returns-in-Ok g c =
    let next = (reads_on g.A.ValueContent.fault _ _ _ _ c.in-Ok.ensures.found).next in search rules
