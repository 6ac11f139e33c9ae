use Rattle.std.proofs.Common.{◌∙◌, arith}
use Rattle.sec1_der.proofs.ElementFaultLemmas.{trailing_fault}
use Rattle.sec1_der.proofs.TreeFaultLemmas.{deep_tree, shallow_tree, cut_tree, counted}
use Rattle.sec1_der.proofs.tree.check_tree.Goals as goal

pub returns-clause-only : goal.returns-clause-only
returns-clause-only c t p shallow =
    let r = c.count_elements in counted r.result c.args.input.now t _ r.ensures.found r.ensures.kind p shallow

pub returns-clause-deeper : goal.returns-clause-deeper
returns-clause-deeper c t p deep = let fault = deep_tree t c.args.input.now p deep in grind arith

pub returns-clause-short : goal.returns-clause-short
returns-clause-short c t p short =
    let fault = cut_tree t c.args.input.now p short in grind arith

pub returns-clause-long : goal.returns-clause-long
returns-clause-long c t p shallow long =
    let fault = shallow_tree t c.args.input.now long.more p shallow long.split ∙ trailing_fault long.more long.some in
    grind arith
