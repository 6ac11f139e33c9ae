use Rattle.std.proofs.Common.{arith}
use Rattle.sec1_c.proofs.ContainerLemmas.{algorithm_fits}
use Rattle.sec1_c.proofs.container.fault.tell_curve.Goals as goal

pub fields_len-requires : goal.fields_len-requires
fields_len-requires c =
    let fit = algorithm_fits c.args.container.now c.args.bytes.now c.requires in
    rw c.to_parts-algorithm.ensures fit.rest

pub overflow_sub-key_end : goal.overflow_sub-key_end
overflow_sub-key_end c =
    let fit = algorithm_fits c.args.container.now c.args.bytes.now c.requires in
    rw (c.fields_len.ensures, c.to_parts-algorithm.ensures) (omega (arith, fit.room))

pub fields_len-requires-2 : goal.fields_len-requires-2
fields_len-requires-2 c =
    let fit = algorithm_fits c.args.container.now c.args.bytes.now c.requires in
    rw c.to_parts-algorithm.ensures fit.key

pub overflow_sub-offset : goal.overflow_sub-offset
overflow_sub-offset c =
    let fit = algorithm_fits c.args.container.now c.args.bytes.now c.requires in
    rw (c.fields_len.ensures, c.fields_len-2.ensures, c.to_parts-algorithm.ensures) (omega (arith, fit.room))

pub fields_len-requires-3 : goal.fields_len-requires-3
fields_len-requires-3 c =
    let fit = algorithm_fits c.args.container.now c.args.bytes.now c.requires in
    rw c.to_parts-algorithm.ensures fit.algorithm

pub overflow_sub-offset-2 : goal.overflow_sub-offset-2
overflow_sub-offset-2 c =
    let fit = algorithm_fits c.args.container.now c.args.bytes.now c.requires in
    rw (c.fields_len.ensures, c.fields_len-2.ensures, c.fields_len-3.ensures, c.to_parts-algorithm.ensures)
    (omega (arith, fit.room))
