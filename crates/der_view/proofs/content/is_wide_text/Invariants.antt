use Rattle.std.proofs.Common.{◌≡◌, length}
use Rattle.der_view.specs.Contents.{is_wide_text}
use Rattle.der_view.proofs.content.is_wide_text.Given as goal

abbrev pub invariant-loop-bytes : goal.invariant-loop-bytes
invariant-loop-bytes l = is_wide_text l.initial.bytes ≡ is_wide_text l.bytes

abbrev pub decreases-loop-bytes : goal.decreases-loop-bytes
decreases-loop-bytes l = length l.bytes
