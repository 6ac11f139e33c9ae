use Rattle.std.proofs.Common.{◌≡◌, ◌≤◌, ◌+◌, ◌*◌, length}
use Rattle.der_view.specs.Pictures.{level_rest, level_rows}
use Rattle.der_view.specs.Rows.{rules_of}
use Rattle.der_view.proofs.walk.+walks.Given as goal

abbrev pub decreases-walk : goal.decreases-walk
decreases-walk g l = 4 * l.most

abbrev pub decreases-follows : goal.decreases-follows
decreases-follows g l = 4 * l.most + 1

abbrev pub decreases-opened_of : goal.decreases-opened_of
decreases-opened_of g l = 4 * l.most + 2

abbrev pub decreases-draw_step : goal.decreases-draw_step
decreases-draw_step g l = 4 * l.most + 3

abbrev pub invariant-walk-loop-most : goal.invariant-walk-loop-most
invariant-walk-loop-most g l =
    ((final : g.row.R.Denot) → g.R.Rows.tells l.rows final (level_rows (rules_of l.rules) l.most l.place l.level)
    → g.R.Rows.tells l.initial.rows final
    (level_rows (rules_of l.rules) l.initial.most l.initial.place l.initial.level))
    × (level_rest l.rules.is_loose l.initial.most l.initial.place.depth l.initial.level
    ≡ level_rest l.rules.is_loose l.most l.place.depth l.level)
    × (l.most ≤ l.initial.most) × (length l.level.bytes.now ≤ length l.initial.level.bytes.now)
    × (l.place.offset + length l.level.bytes.now ≤ l.place.end)

abbrev pub decreases-walk-loop-most : goal.decreases-walk-loop-most
decreases-walk-loop-most g l = l.most
