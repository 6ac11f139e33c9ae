use Rattle.std.proofs.Common.{arith}
use Rattle.std.proofs.lemmas.Bool.Decides.{nat_tests}
use Rattle.sec1_der.proofs.IdentifierLemmas.{narrow_end, is_narrow-decides}
use Rattle.sec1_der.proofs.object_identifier.is_content.Goals as goal

pub returns-then-byte : goal.returns-then-byte
returns-then-byte c =
    grind (arith, nat_tests, is_narrow-decides c.args.content.now (λ i. omega (arith, c.type_inv.content i)))

pub returns-else-width-lt4 : goal.returns-else-width-lt4
returns-else-width-lt4 c =
    grind (arith, nat_tests, is_narrow-decides c.args.content.now (λ i. omega (arith, c.type_inv.content i)))

pub returns : goal.returns
returns c =
    let decides = is_narrow-decides c.args.content.now (λ i. omega (arith, c.type_inv.content i)) (grind arith) in
    let end = narrow_end c.loop-byte.width c.loop-byte.rest.now in (
      λ is. decides.0 (grind (arith, nat_tests, end)),
      λ encodes. let narrow = decides.1 encodes in grind (arith, nat_tests, end),
    )
