use Rattle.std.proofs.Common.{◌∙◌}
use Rattle.der_view.proofs.DrawingLemmas.{bytes_found}
use Rattle.der_view.proofs.laws.keys_are_found.Goals as goal

pub returns-clause-key : goal.returns-clause-key
returns-clause-key c = λ text begin few.
    bytes_found _
    (λ is.
    let (key, of) = c.is_key.ensures.key.0 (c.is_key.ensures.value ∙ is) in
    c.keys_are_known.ensures.whole key _ of few)
    text begin
