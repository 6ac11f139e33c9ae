use Rattle.std.proofs.Common.{arith}
use Rattle.std.proofs.lemmas.Grind.{pieces}
use Rattle.sec1.proofs.EncodedPointLemmas.{identity_holds}
use Rattle.sec1.proofs.point.EncodedPoint.identity.Goals as goal

pub returns : goal.returns
returns g c = record {
  point = (identity_holds g.row.N g.row.L (omega arith)).means;
  wiped = search pieces;
}
