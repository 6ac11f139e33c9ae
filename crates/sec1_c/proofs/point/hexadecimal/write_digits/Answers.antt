use Rattle.std.proofs.Common.{arith}
use Rattle.sec1_c.proofs.HexTextLemmas.{refused_text, written_text}
use Rattle.sec1_c.proofs.point.hexadecimal.write_digits.Goals as goal

pub returns-then-text-digits : goal.returns-then-text-digits
returns-then-text-digits c =
    let short = c.if-text-digits.true in
    refused_text c.args.lower_case c.args.bytes.now c.args.text.now c.kind_number.result (omega (arith, short))
    (grind arith)

pub returns : goal.returns
returns c =
    let rest = c.split_at_mut-front.result.1.now in
    written_text c.args.lower_case c.args.bytes.now c.args.text.now c.put_digits.new.text rest (grind arith)
    c.put_digits.ensures (grind arith) (grind arith)
