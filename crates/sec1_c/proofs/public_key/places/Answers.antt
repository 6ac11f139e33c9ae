use Rattle.std.proofs.Common.{arith}
use Rattle.sec1_c.proofs.PublicKeyLemmas.{places_fit}
use Rattle.sec1_c.proofs.public_key.places.Goals as goal

pub overflow_sub-field_start : goal.overflow_sub-field_start
overflow_sub-field_start c =
    let fit = places_fit c.args.curve c.args.info.now c.args.bytes.now c.requires.info c.requires.curve in
    grind (arith, fit.room)

pub before-requires : goal.before-requires
before-requires c =
    let fit = places_fit c.args.curve c.args.info.now c.args.bytes.now c.requires.info c.requires.curve in
    grind (arith, fit.room)

pub before-requires-2 : goal.before-requires-2
before-requires-2 c =
    let fit = places_fit c.args.curve c.args.info.now c.args.bytes.now c.requires.info c.requires.curve in
    grind (arith, fit.key)
