use Rattle.sec1_c.proofs.PointLemmas.{are_point_parts}
use Rattle.sec1_c.proofs.point.sec1_point_read.Goals as goal

pub returns-then-status-eq-OK-clause-parts : goal.returns-then-status-eq-OK-clause-parts
returns-then-status-eq-OK-clause-parts c p supported e = rw (c.places.ensures p e) (are_point_parts _ p _ e)
