use Rattle.std.proofs.Common.{◌≡◌, length, true}
use Rattle.sec1_der.specs.Identifiers.{numbers_after}
use Rattle.der_view.specs.Arcs.{are_u128}
use Rattle.der_view.proofs.values.arcs.split_subidentifier.Given as goal

abbrev pub invariant-loop-byte : goal.invariant-loop-byte
invariant-loop-byte l = (numbers_after 0 l.bytes ≡ numbers_after l.number l.rest) × (are_u128 l.number l.rest ≡ true)

abbrev pub decreases-loop-byte : goal.decreases-loop-byte
decreases-loop-byte l = length l.rest
