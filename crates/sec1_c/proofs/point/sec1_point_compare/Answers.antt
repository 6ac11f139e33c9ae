use Rattle.std.proofs.Common.{rules, ◌≡◌, to_z, of_z, w32}
use Rattle.std.specs.Cmp.Lexicographic.{slice_cmp}
use Rattle.std.specs.Ordering.{nat_cmp}
use Rattle.sec1_c.specs.PointOrders.{order_of}
use Rattle.sec1_c.proofs.PointLemmas.{encodings_numbered}
use Rattle.sec1_c.proofs.point.sec1_point_compare.Goals as goal

pub returns-then-status-ne-OK-clause-order : goal.returns-then-status-ne-OK-clause-order
returns-then-status-ne-OK-clause-order c p q supported both =
    absurd (c.if-status-ne-OK.true (c.status_of_both-status.ensures.points p q supported both))

pub returns-clause-order : goal.returns-clause-order
returns-clause-order c p q supported both =
    let number : to_z w32 (of_z w32 c.order_number.result)
    ≡ order_of (slice_cmp nat_cmp c.args.first.now c.args.second.now) = search rules in
    rw number (encodings_numbered c.args.field_len p q c.args.first.now c.args.second.now both)
