use Rattle.std.proofs.Common.{length, drop}
use Rattle.sec1_der.proofs.DottedLemmas.{AreRead, substrings}
use Rattle.sec1_der.proofs.object_identifier.ObjectIdentifier.new.Given as goal

abbrev pub invariant-loop-substring : goal.invariant-loop-substring
invariant-loop-substring l = AreRead l.text l.builder (drop (length l.yielded) (substrings l.text))
