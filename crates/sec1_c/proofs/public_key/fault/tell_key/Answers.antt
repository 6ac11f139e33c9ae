use Rattle.std.proofs.Common.{arith}
use Rattle.sec1_c.proofs.PublicKeyLemmas.{elements_fit}
use Rattle.sec1_c.proofs.public_key.fault.tell_key.Goals as goal

pub fields_len-requires : goal.fields_len-requires
fields_len-requires c =
    let fit = elements_fit c.args.info.now c.args.bytes.now c.requires in
    rw c.to_parts-algorithm.ensures fit.key

pub overflow_sub-key_start : goal.overflow_sub-key_start
overflow_sub-key_start c =
    let fit = elements_fit c.args.info.now c.args.bytes.now c.requires in
    rw (c.fields_len.ensures, c.to_parts-algorithm.ensures) (omega (arith, fit.room))
