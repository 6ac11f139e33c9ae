use Rattle.sec1_der.proofs.UniqueLemmas.{optional_part_distinct}
use Rattle.der_types.proofs.optional_part.OptionalPartUniquePart.bytes_injective.Goals as goal

pub returns : goal.returns
returns g c =
    optional_part_distinct g.P.Part.tags _ g.met.P.Alternative.never_empty g.P.Part.begins c.bytes_injective.ensures
