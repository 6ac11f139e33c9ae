use Rattle.std.proofs.Common.{ℕ, List, [], Bor, arith, sym, map}
use Rattle.std.proofs.lemmas.List.{get_or-map, get_or_past, length-map}
use Rattle.der_view.proofs.words.text_at.Goals as goal

pub returns-then-number-texts : goal.returns-then-number-texts
returns-then-number-texts c =
    sym (get_or-map (λ (text : Bor (List ℕ)). text.now) c.args.texts.now c.args.number _ []
    c.if-number-texts.true)

pub returns-else-number-texts : goal.returns-else-number-texts
returns-else-number-texts c =
    let texts = map (λ (text : Bor (List ℕ)). text.now) c.args.texts.now in
    sym (get_or_past texts c.args.number []
    (omega (arith, length-map c.args.texts.now (λ (text : Bor (List ℕ)). text.now), c.if-number-texts.false)))
