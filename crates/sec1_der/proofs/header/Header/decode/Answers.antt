use Rattle.std.proofs.Common.{arith}
use Rattle.sec1_der.proofs.header.Header.decode.Goals as goal
use Rattle.sec1_der.proofs.header.Header.decode.Goals.{in-Ok, in-Err}

pub returns-in-Ok-found-clause-only : goal.returns-in-Ok-found-clause-only
returns-in-Ok-found-clause-only c = λ tag n rest is begins.
    elim c.match-check.branch [
      | in-Ok w ↦
          let first = w.header_at-found.ensures.only tag n rest is in
          grind (arith, first, begins, w.remaining_input.ensures, w.found-is, c.in-Ok-found.is, c.set_unread.ensures)
      | in-Err w ↦ grind (arith, begins, w.found-is, c.in-Ok-found.is)
    ]

pub returns-in-Err-found-clause-only : goal.returns-in-Err-found-clause-only
returns-in-Err-found-clause-only c = λ tag n rest is begins.
    elim c.match-check.branch [
      | in-Ok w ↦
          let first = w.header_at-found.ensures.only tag n rest is in
          grind (arith, first, begins, w.remaining_input.ensures, w.found-is, c.in-Err-found.is)
      | in-Err w ↦ grind (arith, begins, c.check.ensures, w.in-Err.is)
    ]
