use Rattle.std.proofs.Common.{◌≡◌, true, drop}
use Rattle.der_types.specs.ObjectIdentifiers.{are_subidentifiers}
use Rattle.der_types.proofs.object_identifier.is_object_identifier.Given as goal

abbrev pub invariant-loop-byte : goal.invariant-loop-byte
invariant-loop-byte l = are_subidentifiers true l.bytes ≡ are_subidentifiers l.begins (drop l.byte-index l.bytes)
