use Rattle.der_types.specs.AnyElements.{first_byte}
use Rattle.pkix.proofs.CurveLemmas.{content_named}
use Rattle.pkix.proofs.keys.named_curve.Goals as goal

pub returns-clause-only : goal.returns-clause-only
returns-clause-only c curve names =
    let bytes = c.args.element.now in
    let named = content_named curve (first_byte bytes) c.content.result.now bytes c.content.ensures.1 names in
    c.from_content.ensures.only curve named.1
