use Rattle.std.proofs.Common.{arith}
use Rattle.sec1_c.proofs.CertificateLemmas.{fields_fit}
use Rattle.sec1_c.proofs.certificate.public_key_place.Goals as goal

pub fields_len-requires : goal.fields_len-requires
fields_len-requires c =
    let fit = fields_fit c.args.certificate.now c.args.bytes.now c.requires in
    rw c.to_parts-after_tbs.ensures fit.signature

pub overflow_sub-end : goal.overflow_sub-end
overflow_sub-end c =
    let fit = fields_fit c.args.certificate.now c.args.bytes.now c.requires in
    rw (c.fields_len.ensures, c.to_parts-after_tbs.ensures) (omega (arith, fit.room))

pub fields_len-requires-2 : goal.fields_len-requires-2
fields_len-requires-2 c =
    let fit = fields_fit c.args.certificate.now c.args.bytes.now c.requires in
    rw c.to_parts-info.ensures fit.fields

pub overflow_sub-end-2 : goal.overflow_sub-end-2
overflow_sub-end-2 c =
    let fit = fields_fit c.args.certificate.now c.args.bytes.now c.requires in
    rw (c.fields_len.ensures, c.fields_len-2.ensures, c.to_parts-after_tbs.ensures, c.to_parts-info.ensures)
    (omega (arith, fit.room))

pub fields_len-requires-3 : goal.fields_len-requires-3
fields_len-requires-3 c =
    let fit = fields_fit c.args.certificate.now c.args.bytes.now c.requires in
    rw c.to_parts-info.ensures fit.info

pub before-requires : goal.before-requires
before-requires c =
    let fit = fields_fit c.args.certificate.now c.args.bytes.now c.requires in
    rw (
      c.fields_len.ensures,
      c.fields_len-2.ensures,
      c.fields_len-3.ensures,
      c.to_parts-after_tbs.ensures,
      c.to_parts-info.ensures,
    )
    (omega (arith, fit.room))
