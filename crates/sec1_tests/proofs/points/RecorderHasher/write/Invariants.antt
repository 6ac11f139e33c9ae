use Rattle.std.proofs.Common.{◌≡◌, ◌+◌, ◌*◌, ◌%◌, ◌^◌, take, fold}
use Rattle.sec1_tests.proofs.points.RecorderHasher.write.Given as goal

abbrev pub invariant-loop-byte : goal.invariant-loop-byte
invariant-loop-byte l =
    l.self.0 ≡ fold (λ number byte. number % 2 ^ 120 * 256 + byte) l.initial.self.0 (take l.byte-index l.bytes)
