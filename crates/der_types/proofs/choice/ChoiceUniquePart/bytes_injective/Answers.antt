use Rattle.der_types.proofs.ChoiceLemmas.{choice_distinct}
use Rattle.der_types.proofs.choice.ChoiceUniquePart.bytes_injective.Goals as goal

pub returns : goal.returns
returns g c =
    choice_distinct g.P.Part.tags g.Q.Part.tags _ _ g.met.P.Alternative.never_empty g.met.Q.Alternative.never_empty
    g.P.Part.begins g.Q.Part.begins
    c.bytes_injective.ensures c.bytes_injective-2.ensures
