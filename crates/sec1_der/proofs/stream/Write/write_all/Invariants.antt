use Rattle.std.proofs.Common.{◌≡◌, ℕ, List, ◌++◌, length, false}
use Rattle.std.specs.Io.KnownBytes.{Appends}
use Rattle.sec1_der.proofs.stream.Write.write_all.Given as goal

abbrev pub invariant-loop-rest : goal.invariant-loop-rest
invariant-loop-rest g l =
    (front : List ℕ)
    × (l.initial.rest ≡ front ++ l.rest)
    × Appends (g.Self.Write.written l.initial.self) (g.Self.Write.written l.self) front
    × (g.Self.Write.failed l.self ≡ false)

abbrev pub decreases-loop-rest : goal.decreases-loop-rest
decreases-loop-rest g l = length l.rest
