use Rattle.std.proofs.Common.{refl}
use Rattle.sec1.specs.PointOrderLaws.{point_cmp-is_eq}
use Rattle.sec1.proofs.PointOrderLemmas.{Equal-point_cmp}
use Rattle.sec1.proofs.PointLemmas.{one_encoding}
use Rattle.sec1.proofs.laws.points_apart.Goals as goal

pub returns : goal.returns
returns c = record {
  compared = λ p q. (point_cmp-is_eq p q, λ h. rw (Equal-point_cmp p q h) refl);
  encoding = one_encoding;
}
