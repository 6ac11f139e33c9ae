use Rattle.std.proofs.Common.{◌≡◌, ◌+◌, ◌-◌, ◌*◌, ◌≤◌, ℕ, length}
use Rattle.der_view.specs.FaultPlaces.{content_place, level_place, row_place}
use Rattle.der_view.proofs.faults.walk.+check.Given as goal

abbrev pub decreases-check : goal.decreases-check
decreases-check l = 2 * l.levels

abbrev pub decreases-check_content : goal.decreases-check_content
decreases-check_content l = 2 * l.levels + 1

abbrev pub invariant-check-loop-components : goal.invariant-check-loop-components
invariant-check-loop-components l =
    (most : ℕ) × (length l.components + length l.rest ≤ most)
    × (level_place l.levels l.fn.components l.end l.bytes
    ≡ row_place (content_place (level_place (l.levels - 1))) most l.components l.end l.rest)
    × (length l.rest ≤ l.end)

abbrev pub decreases-check-loop-components : goal.decreases-check-loop-components
decreases-check-loop-components l = length l.rest + length l.components
