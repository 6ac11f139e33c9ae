use Rattle.std.proofs.Common.{◌≡◌, ap, drop}
use Rattle.sec1.specs.Coordinates.{coordinates_bytes}
use Rattle.sec1.specs.EncodedPoints.{point_of}
use Rattle.sec1.specs.Points.{encoding}
use Rattle.sec1.proofs.point.EncodedPointDebug.fmt.Goals as goal

pub returns : goal.returns
returns g c =
    let of = c.coordinates-coordinates.ensures in
    let bytes : drop 1 (coordinates_bytes c.coordinates-coordinates.result)
    ≡ drop 1 (encoding g.row.N (point_of c.args.self.now)) =
    ap (drop 1) of.1 in
    record { writes = rw (← bytes, ← of.0) c.write.ensures.writes }
