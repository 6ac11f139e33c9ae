use Rattle.std.proofs.Common.{rules}
use Rattle.sec1_der.proofs.TextLaws.{join_two}
use Rattle.sec1.proofs.HexLemmas.{encode_split}
use Rattle.sec1.proofs.point.text.+print_upper.Goals as goal

pub returns : goal.returns
returns g t c = λ flush ok.
    let first = c.in_ok-print_few.ensures flush (search rules) in
    join_two _ _ _ _ _ _ _ first (c.print_upper.ensures first.flush ok)
    (rw (c.split_at.ensures.front, c.split_at.ensures.back) (encode_split c.args.bytes.now 67))
