use Rattle.std.proofs.Common.{refl}
use Rattle.der_view.specs.Pictures.{is_retagged, is_tree, known_as, nearest, plan_of}
use Rattle.der_view.proofs.plan.plan_of.Goals as goal

pub returns : goal.returns
unfolding plan_of nearest known_as is_tree is_retagged
returns c =
    let best = c.best.ensures in
    let tree = c.shape_as-tree.ensures in
    rw (c.way_of.ensures, c.form_of-form.ensures, c.is_cut.ensures, tree.whole, tree.progress)
    (rw (best.whole, best.parts, best.form) refl)
