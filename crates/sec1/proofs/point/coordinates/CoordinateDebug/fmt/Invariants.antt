use Rattle.std.proofs.Common.{◌∷◌, []}
use Rattle.std.specs.Fmt.{HasWritten, IsPlainFormatter}
use Rattle.sec1.specs.Coordinates.{first_bytes}
use Rattle.sec1.proofs.CoordinateLemmas.{items}
use Rattle.sec1.proofs.point.coordinates.CoordinateDebug.fmt.Given as goal

abbrev pub invariant-loop-i : goal.invariant-loop-i
invariant-loop-i g l =
    IsPlainFormatter l.fn.f
    → HasWritten g.W.Write.write_str_gives l.fn.f (91 ∷ items [] (first_bytes l.i l.self.0.now)) l.f
