use Rattle.std.proofs.Common.{arith, refl}
use Rattle.sec1_c.proofs.PictureLemmas.{appended}
use Rattle.sec1_c.proofs.picture.filling.fill.Goals as goal

pub returns : goal.returns
returns g c =
    appended c.args.slice.now _ c.args.items.now _ c.args.count _ c.min-start.result c.min-fitting.result _
    (omega arith) (omega arith) (omega arith) (omega arith) c.copy_from_slice.ensures.after refl (omega arith)
