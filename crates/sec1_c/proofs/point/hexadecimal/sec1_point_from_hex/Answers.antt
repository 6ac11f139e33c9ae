use Rattle.std.proofs.Common.{arith}
use Rattle.sec1.specs.Points.{encoding}
use Rattle.sec1.proofs.PointLemmas.{IsBytes-enc}
use Rattle.sec1_c.proofs.point.hexadecimal.sec1_point_from_hex.Goals as goal

pub returns-then-status-ne-OK-clause-point : goal.returns-then-status-ne-OK-clause-point
returns-then-status-ne-OK-clause-point c p supported fits is =
    let read = c.read_digits.ensures.only (encoding c.args.field_len p) (IsBytes-enc c.args.field_len p) is in
    let ok = c.status_of-status.ensures.point supported (record { of = p; fits = fits; encoded = read.1 }) in
    absurd (grind (arith, ok))

pub returns-clause-point : goal.returns-clause-point
returns-clause-point c p supported fits is =
    let read = c.read_digits.ensures.only (encoding c.args.field_len p) (IsBytes-enc c.args.field_len p) is in
    rw (← read.1) c.write_bytes.ensures
