use Rattle.std.proofs.Common.{◌≡◌, ◌∙◌, arith}
use Rattle.sec1.specs.Coordinates.{coordinates_bytes}
use Rattle.sec1.specs.EncodedPoints.{point_of}
use Rattle.sec1.specs.Points.{encoding}
use Rattle.sec1.proofs.CoordinateLemmas.{digits_of_encoding}
use Rattle.sec1.proofs.EncodedPointLemmas.{coordinates_of, made_of_halves}
use Rattle.sec1.proofs.point.EncodedPoint.coordinates.Goals as goal

pub returns : goal.returns
unfolding encoding
returns g c =
    let point =
    c.with_tag.ensures.0
    ∙ rw (c.tag.ensures.0) (made_of_halves c.args.self.now _ _ c.halves.ensures.0 c.halves.ensures.1) in
    let bytes = coordinates_of c.args.self.now _ _ c.halves.ensures.0 c.halves.ensures.1 in
    let encoded : coordinates_bytes c.with_tag.result ≡ encoding g.row.N (point_of c.args.self.now) =
    grind (arith, point, bytes, c.with_tag.ensures.1, c.tag.ensures.0) in (
      point,
      encoded,
      digits_of_encoding c.with_tag.result (rw (← point) at encoded) c.with_tag.ensures.2,
      c.with_tag.ensures.2,
    )
