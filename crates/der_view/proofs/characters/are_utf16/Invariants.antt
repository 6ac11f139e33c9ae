use Rattle.std.proofs.Common.{◌≡◌, length}
use Rattle.der_view.specs.Characters.{is_utf16}
use Rattle.der_view.proofs.characters.are_utf16.Given as goal

abbrev pub invariant-loop-character : goal.invariant-loop-character
invariant-loop-character l = is_utf16 l.bytes ≡ is_utf16 l.rest

abbrev pub decreases-loop-character : goal.decreases-loop-character
decreases-loop-character l = length l.rest
