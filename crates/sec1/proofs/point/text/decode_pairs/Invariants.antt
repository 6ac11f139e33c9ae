use Rattle.std.proofs.Common.{length, take}
use Rattle.sec1.proofs.HexLemmas.{AreDecoded}
use Rattle.sec1.proofs.point.text.decode_pairs.Given as goal

abbrev pub invariant-loop-i : goal.invariant-loop-i
invariant-loop-i l = AreDecoded l.text (length l.fn.out) l.are_digits l.i (take l.i l.out)
