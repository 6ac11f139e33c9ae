use Rattle.std.proofs.Common.{length, arith, refl}
use Rattle.sec1.proofs.HexLemmas.{decoded_none, decoded_more, decoded_all}
use Rattle.sec1.proofs.point.text.decode_pairs.Goals as goal

pub loop-i-init : goal.loop-i-init
loop-i-init c = decoded_none c.args.text.now c.args.out.now (length c.args.out.now) _ (omega arith) refl

pub loop-i-preserved : goal.loop-i-preserved
loop-i-preserved c =
    decoded_more c.args.text.now c.loop-i.out (length c.args.out.now) c.loop-i.are_digits _ c.loop-i.i _ _
    (omega arith) (omega arith) c.digit_value-high.ensures c.digit_value-low.ensures refl c.loop-i.invariant

pub returns : goal.returns
returns c =
    decoded_all c.args.text.now c.loop-i.out (length c.args.out.now) c.loop-i.are_digits c.loop-i.i (omega arith)
    (omega arith) c.loop-i.invariant
