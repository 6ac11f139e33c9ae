use Rattle.sec1_c.proofs.PrivateKeyLemmas.{apart, are_contained_parts, container_form, key_in_form}
use Rattle.sec1_c.proofs.private_key.sec1_private_key_read.Goals as goal

pub returns-then-has_algorithm-clause-contained_parts : goal.returns-then-has_algorithm-clause-contained_parts
returns-then-has_algorithm-clause-contained_parts c container curve key is names =
    rw (c.read_contained.ensures.contained container curve key is names).1
    (are_contained_parts container curve key c.args.bytes.now is)

pub returns-else-has_algorithm-clause-contained : goal.returns-else-has_algorithm-clause-contained
returns-else-has_algorithm-clause-contained c container curve key is names =
    absurd (apart c.args.bytes.now _ c.has_algorithm.ensures c.if-has_algorithm.false
    (key_in_form container curve key c.args.bytes.now is))

pub returns-else-has_algorithm-clause-no_curve : goal.returns-else-has_algorithm-clause-no_curve
returns-else-has_algorithm-clause-no_curve c container is lacks =
    absurd (apart c.args.bytes.now _ c.has_algorithm.ensures c.if-has_algorithm.false
    (container_form container c.args.bytes.now is))

pub returns-else-has_algorithm-clause-no_key_inside : goal.returns-else-has_algorithm-clause-no_key_inside
returns-else-has_algorithm-clause-no_key_inside c container curve kind is on refused =
    absurd (apart c.args.bytes.now _ c.has_algorithm.ensures c.if-has_algorithm.false
    (container_form container c.args.bytes.now is))
