use Rattle.sec1.proofs.HexLemmas.{hex_utf8}
use Rattle.sec1.proofs.point.text.print_few.Goals as goal

pub unreachable-requires : goal.unreachable-requires
unreachable-requires g c = c.in-Err.ensures.cases.0 (rw c.put_digits.ensures (hex_utf8 c.args.bytes.now))
