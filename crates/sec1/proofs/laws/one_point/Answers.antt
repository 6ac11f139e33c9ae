use Rattle.sec1.proofs.EncodedPointLemmas.{point_fits}
use Rattle.sec1.proofs.laws.one_point.Goals as goal

pub returns : goal.returns
returns g c = (c.args.point.now.sizes, point_fits c.args.point.now)
