use Rattle.std.proofs.Common.{◌∙◌, arith}
use Rattle.sec1.proofs.EncodedPointLemmas.{short_front, whole_front}
use Rattle.sec1.proofs.point.EncodedPoint.compressed_front.Goals as goal

pub returns-then-self : goal.returns-then-self
returns-then-self g c = (c.args.self.now.room, short_front c.args.self.now c.if-self.true)

pub returns : goal.returns
returns g c = (
  omega (arith, c.args.self.now.sizes.1),
  whole_front c.args.self.now _ c.from.result c.if-self.false c.halves.ensures.1 c.halves.ensures.3
      (c.from.ensures ∙ c.compress_y.ensures),
)
