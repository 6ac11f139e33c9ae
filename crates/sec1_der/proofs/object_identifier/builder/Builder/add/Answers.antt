use Rattle.std.proofs.Common.{arith}
use Rattle.sec1_der.proofs.IdentifierLemmas.{first_two, one_more_arc}
use Rattle.sec1_der.proofs.object_identifier.builder.Builder.add.Goals as goal

pub invariant_of-result-in-One : goal.invariant_of-result-in-One
invariant_of-result-in-One c =
    let number = rw c.in_ok-number-in-One.ensures.ok_part at c.shared_number.ensures in
    let all = first_two c.in-One.first c.args.arc c.in_ok-number-in-One.number c.in_ok-with_number-in-One.field-0
    number.1 number.0 (grind arith) in
    (all.0, all.1)

pub invariant_of-result-in-Several : goal.invariant_of-result-in-Several
invariant_of-result-in-Several c = grind (arith, one_more_arc c.args.self c.in-Several.content c.args.arc)

pub returns-in_ok-with_number-in-One : goal.returns-in_ok-with_number-in-One
returns-in_ok-with_number-in-One c =
    let number = rw c.in_ok-number-in-One.ensures.ok_part at c.shared_number.ensures in
    let all = first_two c.in-One.first c.args.arc c.in_ok-number-in-One.number c.in_ok-with_number-in-One.field-0
    number.1 number.0 (grind arith) in
    grind (arith, all.2)

pub returns-in_ok-with_number-in-Several : goal.returns-in_ok-with_number-in-Several
returns-in_ok-with_number-in-Several c =
    grind (arith, one_more_arc c.args.self c.in-Several.content c.args.arc)
