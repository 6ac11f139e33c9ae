use Rattle.sec1_c.proofs.PrivateKeyLemmas.{apart, container_form, key_in_form}
use Rattle.sec1_c.proofs.private_key.fault.sec1_private_key_fault_at.Goals as goal

pub returns-else-has_algorithm-clause-contained : goal.returns-else-has_algorithm-clause-contained
returns-else-has_algorithm-clause-contained c container curve key is names =
    absurd (apart c.args.bytes.now _ c.has_algorithm.ensures c.if-has_algorithm.false
    (key_in_form container curve key c.args.bytes.now is))

pub returns-else-has_algorithm-clause-no_curve : goal.returns-else-has_algorithm-clause-no_curve
returns-else-has_algorithm-clause-no_curve c container is lacks =
    absurd (apart c.args.bytes.now _ c.has_algorithm.ensures c.if-has_algorithm.false
    (container_form container c.args.bytes.now is))

pub returns-else-has_algorithm-clause-no_key_inside : goal.returns-else-has_algorithm-clause-no_key_inside
returns-else-has_algorithm-clause-no_key_inside c container curve fault is on refused =
    absurd (apart c.args.bytes.now _ c.has_algorithm.ensures c.if-has_algorithm.false
    (container_form container c.args.bytes.now is))

pub returns-else-has_algorithm-clause-other_curve : goal.returns-else-has_algorithm-clause-other_curve
returns-else-has_algorithm-clause-other_curve c container curve key is differs =
    absurd (apart c.args.bytes.now _ c.has_algorithm.ensures c.if-has_algorithm.false
    (key_in_form container curve key c.args.bytes.now is))
