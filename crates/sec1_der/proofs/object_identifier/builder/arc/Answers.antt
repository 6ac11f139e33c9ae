use Rattle.std.proofs.Common.{arith}
use Rattle.sec1_der.proofs.ArcLemmas.{not_empty, not_there, arc_found}
use Rattle.sec1_der.proofs.object_identifier.builder.arc.Goals as goal

pub returns-then-bytes-eq43 : goal.returns-then-bytes-eq43
returns-then-bytes-eq43 c n h e = grind (arith, not_there n 43 0 c.as_bytes-bytes.result.now, not_empty)

pub returns-in-Ok : goal.returns-in-Ok
returns-in-Ok c =
    grind (arith, arc_found c.in-Ok.n c.as_bytes-bytes.result.now c.parse.result c.in-Ok.is c.if-bytes-eq43.false)
