use Rattle.sec1_c.proofs.NameLemmas.{name_utf8}
use Rattle.sec1_c.proofs.curve.sec1_curve_from_name.Goals as goal

pub returns-in_default-clause-curve : goal.returns-in_default-clause-curve
returns-in_default-clause-curve c curve named =
    absurd (c.in_default.ensures.cases.0 (name_utf8 c.args.name.now curve named))
