use Rattle.std.proofs.Common.{◌≡◌, length}
use Rattle.sec1_der.specs.Identifiers.{numbers_after, SubidentifiersFit}
use Rattle.sec1_der.proofs.object_identifier.arcs.split_subidentifier.Given as goal

abbrev pub invariant-loop-byte : goal.invariant-loop-byte
invariant-loop-byte l =
    (numbers_after 0 l.bytes ≡ numbers_after l.number l.rest) × SubidentifiersFit l.number l.rest

abbrev pub decreases-loop-byte : goal.decreases-loop-byte
decreases-loop-byte l = length l.rest
