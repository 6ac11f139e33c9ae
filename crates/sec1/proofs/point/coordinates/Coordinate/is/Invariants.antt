use Rattle.std.proofs.Common.{◌≡◌}
use Rattle.sec1.specs.Coordinates.{first_bytes}
use Rattle.sec1.proofs.point.coordinates.Coordinate.is.Given as goal

abbrev pub invariant-loop-i : goal.invariant-loop-i
invariant-loop-i g l = first_bytes l.i l.self.0.now ≡ first_bytes l.i l.other.0.now
