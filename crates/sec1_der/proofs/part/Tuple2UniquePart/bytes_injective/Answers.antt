use Rattle.sec1_der.proofs.UniqueLemmas.{pair_distinct}
use Rattle.sec1_der.proofs.part.Tuple2UniquePart.bytes_injective.Goals as goal

pub returns : goal.returns
returns g c =
    pair_distinct g.P.Part.tags g.Q.Part.tags _ _ c.bytes_injective.ensures c.bytes_injective-2.ensures g.Q.Part.begins
