use Rattle.std.proofs.lemmas.Option.{IfSome_then}
use Rattle.sec1_der.proofs.IdentifierLaws.{identifier_content-valid}
use Rattle.curves.specs.Curves.{curve_arcs}
use Rattle.curves.proofs.CurveLemmas.{content-curve_arcs}
use Rattle.curves.proofs.curve.Curve.from_identifier.Goals as goal

pub returns-clause-found : goal.returns-clause-found
returns-clause-found c =
    let arcs = c.args.identifier.now in
    let content = c.as_bytes.result.now in
    let own = identifier_content-valid arcs content c.as_bytes.ensures.0 in
    IfSome_then c.from_content.result c.from_content.ensures.found
    (λ curve same. c.content_injective.ensures (curve_arcs curve) arcs content (content-curve_arcs curve content same)
    own)
