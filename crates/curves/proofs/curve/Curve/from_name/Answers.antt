use Rattle.std.proofs.Common.{rules, tests, ◌≡◌, sym, ◌∙◌}
use Rattle.std.specs.Prelude.{find, option_map}
use Rattle.std.proofs.lemmas.Bool.Decides.{same_from_decides}
use Rattle.std.proofs.lemmas.Iterator.{YieldsList-from_slice}
use Rattle.std.proofs.lemmas.Iterator.Adapters.{option_map_id}
use Rattle.std.proofs.lemmas.Iterator.Consumers.{YieldsList-from_copied}
use Rattle.std.proofs.lemmas.Iterator.Search.{find_from_yields_List}
use Rattle.curves.proofs.CurveLemmas.{has_name, has_name-decides, find-has_name}
use Rattle.curves.specs.declared.curve.TheConstants.Curve.{ALL}
use Rattle.curves.proofs.curve.Curve.from_name.Goals as goal

pub returns-clause-only : goal.returns-clause-only
returns-clause-only c curve is =
    let text = c.args.text.now in
    let first : option_map (λ x. x) c.find.result ≡ find (has_name text) ALL =
    find_from_yields_List (has_name text) _ _ c.find.result c.find.ensures.ran
    (YieldsList-from_copied (YieldsList-from_slice ALL cc))
    (λ x b q k. (
      search (rules, tests),
      same_from_decides b (has_name text x) (search (rules, tests)) (has_name-decides text x),
    )) in
    sym (option_map_id c.find.result) ∙ (first ∙ find-has_name text curve is)
