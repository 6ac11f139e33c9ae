use Rattle.std.proofs.Common.{◌∙◌, ap}
use Rattle.examples.specs.KeyStores.{kept}
use Rattle.examples.proofs.callers.key_store.find_by_public_key.Goals as goal

pub returns-in_err-point : goal.returns-in_err-point
returns-in_err-point c info point bytes curve has = absurd (c.in_err-point.ensures.only info point bytes curve has)

pub returns : goal.returns
returns c info point bytes curve has =
    c.find.ensures.value ∙ ap (λ p. kept c.args.store.now p) (c.in_ok-point.ensures.only info point bytes curve has)
