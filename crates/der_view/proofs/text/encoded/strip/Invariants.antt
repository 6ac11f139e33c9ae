use Rattle.std.proofs.Common.{◌≡◌, ◌≤◌, ◌+◌, ◌++◌, length, take}
use Rattle.der_view.specs.Encoded.{digits_in}
use Rattle.der_view.proofs.text.encoded.strip.Given as goal

abbrev pub invariant-loop-rest : goal.invariant-loop-rest
invariant-loop-rest l =
    (l.count + length l.rest ≤ length l.text) × (length l.text ≤ length l.digits)
    × (digits_in l.is_almost 0 l.text ≡ take l.count l.digits ++ digits_in l.is_almost l.previous l.rest)

abbrev pub decreases-loop-rest : goal.decreases-loop-rest
decreases-loop-rest l = length l.rest
