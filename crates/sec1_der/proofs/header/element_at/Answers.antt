use Rattle.std.proofs.Common.{arith}
use Rattle.sec1_der.proofs.ElementFaultLemmas.{any_short}
use Rattle.sec1_der.proofs.header.element_at.Goals as goal

pub returns-then-inside-get-clause-found : goal.returns-then-inside-get-clause-found
returns-then-inside-get-clause-found c =
    let (is, read) = c.in-Ok.ensures.found in
    let few = c.if-inside-get.true in
    (tt, λ content rest. any_short content rest _ _ c.args.input.now _ is read (omega (arith, few)))
