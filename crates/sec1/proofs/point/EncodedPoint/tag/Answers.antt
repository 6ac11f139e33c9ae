use Rattle.std.proofs.Common.{sym, ◌∙◌}
use Rattle.sec1.specs.EncodedPoints.{point_of}
use Rattle.sec1.specs.Tags.{point_tag}
use Rattle.sec1.proofs.PointLemmas.{byte_of-injective, tag_of}
use Rattle.sec1.proofs.EncodedPointLemmas.{first_byte}
use Rattle.sec1.proofs.point.EncodedPoint.tag.Goals as goal

pub unreachable-requires : goal.unreachable-requires
unreachable-requires g c =
    c.in-Err.ensures.1 (point_tag (point_of c.args.self.now)) (sym (first_byte c.args.self.now))

pub returns : goal.returns
returns g c =
    let of = point_of c.args.self.now in
    tag_of g.row.N of _ (byte_of-injective _ (point_tag of) (c.in-Ok.ensures ∙ first_byte c.args.self.now))
