use Rattle.std.proofs.Common.{sym, ◌∙◌}
use Rattle.der_view.proofs.DrawingLemmas.{keys_drawn}
use Rattle.der_view.proofs.laws.keys_are_drawn_alike.Goals as goal

pub returns : goal.returns
returns c = λ k l one two curve public len few.
    let alike = c.keys_are_alike.ensures k l _ _ one two curve public len few in
    keys_drawn _ _ (c.pictures_are_of_masks.ensures.plan _ _ alike) (c.pictures_are_of_masks.ensures.picture _ _ alike)
    (c.keys_are_known.ensures.whole k _ one few)
    (sym c.is_key.ensures.value ∙ c.is_key.ensures.key.1 (k, one))
    (sym c.is_key-2.ensures.value ∙ c.is_key-2.ensures.key.1 (l, two))
