use Rattle.std.proofs.Common.{sym, ap, ◌∙◌}
use Rattle.sec1_der.proofs.UniqueLemmas.{unique_parts}
use Rattle.sec1_der.proofs.record.AnyUniqueContent.content_injective.Goals as goal

pub returns : goal.returns
returns g c a b bytes e f =
    let rows = unique_parts g.T.Parts.Part.tags g.T.Parts.Part.bytes c.bytes_injective.ensures g.met.T.Distinct.distinct
    _ _
    bytes e f in
    sym (g.met.T.Record.same a) ∙ (ap g.T.Record.of_parts rows ∙ g.met.T.Record.same b)
