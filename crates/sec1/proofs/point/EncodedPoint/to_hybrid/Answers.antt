use Rattle.std.proofs.Common.{arith}
use Rattle.sec1.proofs.CoordinateLemmas.{coordinate_digits}
use Rattle.sec1.proofs.EncodedPointLemmas.{hybrid_holds}
use Rattle.sec1.proofs.point.EncodedPoint.to_hybrid.Goals as goal

pub invariant_of-point-clause-encoded : goal.invariant_of-point-clause-encoded
invariant_of-point-clause-encoded g c =
    grind (arith, coordinate_digits, hybrid_holds c.args.self.now c.from.result, c.in-Uncompressed.ensures)

pub returns : goal.returns
returns g c = grind (arith, coordinate_digits, hybrid_holds c.args.self.now c.from.result, c.in-Uncompressed.ensures)
