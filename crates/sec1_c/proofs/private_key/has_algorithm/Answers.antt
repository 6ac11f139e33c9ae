use Rattle.std.proofs.Common.{sym, ap, ◌∙◌}
use Rattle.std.specs.Prelude.{is_none}
use Rattle.sec1_der.specs.Readers.{Reader}
use Rattle.sec1_c.specs.PrivateKeys.{tag_fault}
use Rattle.sec1_c.proofs.PrivateKeyLemmas.{found_form, refused_form}
use Rattle.sec1_c.proofs.private_key.has_algorithm.Goals as goal

pub returns-in-Ok-open : goal.returns-in-Ok-open
returns-in-Ok-open c =
    let is = ap (λ (r : Reader). r.unread) c.new.ensures in
    let form = found_form c.args.bytes.now _ c.in-Ok.content _ _ _ is c.in-Ok.ensures.found.1
    c.in-Ok-open.ensures.found.1 in
    c.begins_with_sequence.ensures
    ∙ (ap (λ xs. is_none (tag_fault 0x30 xs)) c.remaining_input.ensures ∙ sym form)

pub returns-in-Err : goal.returns-in-Err
returns-in-Err c =
    let is = ap (λ (r : Reader). r.unread) c.new.ensures in
    let whole = ap (λ (r : Reader). r.failed) c.in-Ok.ensures.found.0 in
    sym (refused_form c.args.bytes.now _ c.in-Ok.content _ _ is c.in-Ok.ensures.found.1
    (c.in-Err.ensures.refused.kind whole))
