use Rattle.std.proofs.Common.{arith}
use Rattle.sec1.proofs.EncodedPointLemmas.{filled, point_order}
use Rattle.sec1.proofs.PointOrderLemmas.{orders}
use Rattle.sec1.proofs.point.order.EncodedPointOrd.cmp.Goals as goal

pub returns-then-other : goal.returns-then-other
returns-then-other g c =
    let bytes =
    rw (
      filled c.args.self.now (omega (arith, c.if-self.true)),
      filled c.args.other.now
          (omega (arith, c.if-other.true)),
    ) at c.words_cmp.ensures in
    let order = point_order c.args.self.now c.args.other.now in
    record {
      value = cc;
      order = record { below = grind (arith, orders); above = grind (arith, orders); same = grind (arith, orders) };
      bytes = bytes;
    }

pub returns : goal.returns
returns g c =
    let order = point_order c.args.self.now c.args.other.now in
    record {
      value = cc;
      order = record { below = grind (arith, orders); above = grind (arith, orders); same = grind (arith, orders) };
      bytes = cc;
    }
