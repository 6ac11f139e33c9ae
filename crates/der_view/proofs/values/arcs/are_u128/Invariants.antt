use Rattle.std.proofs.Common.{◌≡◌, drop}
use Rattle.der_view.specs.Arcs.{are_u128}
use Rattle.der_view.proofs.values.arcs.are_u128.Given as goal

abbrev pub invariant-loop-byte : goal.invariant-loop-byte
invariant-loop-byte l = are_u128 0 l.bytes ≡ are_u128 l.high (drop l.byte-index l.bytes)
