use Rattle.std.proofs.Common.{◌≡◌, ap, arith}
use Rattle.pkix.specs.declared.private_key.OneAsymmetricKey.{OneAsymmetricKey}
use Rattle.sec1_c.proofs.ContainerLemmas.{parts_fit}
use Rattle.sec1_c.proofs.container.places.Goals as goal

pub fields_len-requires : goal.fields_len-requires
fields_len-requires c =
    let fit = parts_fit c.args.curve c.args.container.now c.args.bytes.now c.requires.container c.requires.curve in
    rw c.to_parts-key.ensures fit.rest

pub overflow_sub-key_end : goal.overflow_sub-key_end
overflow_sub-key_end c =
    let fit = parts_fit c.args.curve c.args.container.now c.args.bytes.now c.requires.container c.requires.curve in
    rw (c.fields_len.ensures, c.to_parts-key.ensures) (omega (arith, fit.content))

pub fields_len-requires-2 : goal.fields_len-requires-2
fields_len-requires-2 c =
    let fit = parts_fit c.args.curve c.args.container.now c.args.bytes.now c.requires.container c.requires.curve in
    rw c.to_parts-key.ensures fit.key

pub overflow_sub-key_end-2 : goal.overflow_sub-key_end-2
overflow_sub-key_end-2 c =
    let fit = parts_fit c.args.curve c.args.container.now c.args.bytes.now c.requires.container c.requires.curve in
    rw (c.fields_len.ensures, c.fields_len-2.ensures, c.to_parts-key.ensures) (omega (arith, fit.room))

pub before-requires : goal.before-requires
before-requires c =
    let fit = parts_fit c.args.curve c.args.container.now c.args.bytes.now c.requires.container c.requires.curve in
    rw (c.content.ensures, c.fields_len.ensures, c.fields_len-2.ensures, c.to_parts-key.ensures)
    (omega (arith, fit.room))

pub before-requires-2 : goal.before-requires-2
before-requires-2 c =
    let fit = parts_fit c.args.curve c.args.container.now c.args.bytes.now c.requires.container c.requires.curve in
    let same : c.container.inside.0.1.0.bytes.now ≡ c.args.container.now.private_key =
    ap (λ (container : OneAsymmetricKey). container.private_key) c.container.view_is in
    rw (same, c.fields_len.ensures, c.to_parts-key.ensures) (omega (arith, fit.content))
