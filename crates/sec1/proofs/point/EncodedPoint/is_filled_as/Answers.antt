use Rattle.std.proofs.Common.{arith}
use Rattle.std.proofs.lemmas.Map.Text.{is_eq-slice_cmp}
use Rattle.std.proofs.lemmas.Slice.Eq.{bytes_eq-Decides}
use Rattle.sec1.proofs.point.EncodedPoint.is_filled_as.Goals as goal

pub returns : goal.returns
returns g c =
    let same = is_eq-slice_cmp c.args.self.now.bytes c.args.other.now.bytes in
    grind (arith, same, bytes_eq-Decides)
