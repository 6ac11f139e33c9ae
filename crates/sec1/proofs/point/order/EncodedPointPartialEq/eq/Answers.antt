use Rattle.sec1.proofs.PointOrderLemmas.{decides_same}
use Rattle.sec1.proofs.point.order.EncodedPointPartialEq.eq.Goals as goal

pub returns-clause-value : goal.returns-clause-value
returns-clause-value g c = decides_same c.ct_eq.result _ _ c.ct_eq.ensures.same
