use Rattle.std.proofs.Common.{rules}
use Rattle.sec1_der.proofs.PartLemmas.{optional_passes}
use Rattle.sec1_der.proofs.optional.OptionalDecodePart.decode_part.Goals as goal

pub returns-in-Ok : goal.returns-in-Ok
returns-in-Ok g c =
    let next = optional_passes g.A.ValueContent.fault _ _ _ _ c.in-Ok.ensures.found in search rules
