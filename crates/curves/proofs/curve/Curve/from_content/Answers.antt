use Rattle.std.proofs.Common.{rules, tests, ◌≡◌, sym, ◌∙◌}
use Rattle.std.specs.Prelude.{find, option_map}
use Rattle.std.proofs.lemmas.Iterator.{YieldsList-from_slice}
use Rattle.std.proofs.lemmas.Iterator.Adapters.{option_map_id}
use Rattle.std.proofs.lemmas.Iterator.Consumers.{YieldsList-from_copied}
use Rattle.std.proofs.lemmas.Iterator.Search.{find_from_yields_List}
use Rattle.curves.proofs.CurveLemmas.{has_content, find-has_content}
use Rattle.curves.specs.declared.curve.TheConstants.Curve.{ALL}
use Rattle.curves.proofs.curve.Curve.from_content.Goals as goal

pub returns-clause-only : goal.returns-clause-only
unfolding has_content
returns-clause-only c curve same =
    let first : option_map (λ x. x) c.find.result ≡ find (has_content c.args.content.now) ALL =
    find_from_yields_List (has_content c.args.content.now) _ _ c.find.result c.find.ensures.ran
    (YieldsList-from_copied (YieldsList-from_slice ALL cc))
    (λ x b q k. search (rules, tests)) in
    let own = find-has_content curve in
    sym (option_map_id c.find.result) ∙ (first ∙ rw (← same) own)
