use Rattle.std.proofs.Common.{◌≡◌, length}
use Rattle.sec1_der.proofs.IdentifierLemmas.{is_narrow}
use Rattle.sec1_der.proofs.object_identifier.is_content.Given as goal

abbrev pub invariant-loop-byte : goal.invariant-loop-byte
invariant-loop-byte l = is_narrow l.width l.rest ≡ is_narrow 0 l.content

abbrev pub decreases-loop-byte : goal.decreases-loop-byte
decreases-loop-byte l = length l.rest
