use Rattle.std.proofs.Common.{◌++◌, ap, inl, inr, sym, ◌∙◌}
use Rattle.std.specs.Fmt.{decimal}
use Rattle.std.specs.Prelude.{codes}
use Rattle.std.proofs.lemmas.Result.{IfOk-weaker}
use Rattle.sec1_inspect.proofs.report.tree_text.Goals as goal

pub returns-in-Ok : goal.returns-in-Ok
returns-in-Ok c =
    let (tree, whole, shallow, count) = c.in-Ok.ensures.found in
    let same = ap (λ n. decimal n ++ codes " elements") (sym count) in
    IfOk-weaker _ _ _
    (λ text written. inl (tree, record { whole = whole; shallow = shallow }, written ∙ same))
    c.format.ensures.ok

pub returns-in-Err : goal.returns-in-Err
returns-in-Err c =
    IfOk-weaker _ _ _
    (λ text no. inr (λ tree has. absurd (cc (c.check_tree.ensures.only tree has.whole has.shallow)), no))
    c.to_string.ensures.ok
