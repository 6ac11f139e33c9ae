use Rattle.std.proofs.Common.{rules}
use Rattle.sec1_der.proofs.ElementFaultLemmas.{opened_field}
use Rattle.sec1_der.proofs.reader.SliceReader.context_specific.Goals as goal

pub returns-in-Ok-clause-refused : goal.returns-in-Ok-clause-refused
returns-in-Ok-clause-refused g c =
    let opened = opened_field c.args.number g.T.Tagged.tag_byte g.T.ValueContent.fault _ _ _ _
    c.in_ok-field.ensures.found c.context-tag.ensures in
    search (rules, opened.1, c.in-Ok.ensures.reads.kind)

pub returns-in-Err-clause-refused : goal.returns-in-Err-clause-refused
returns-in-Err-clause-refused g c =
    let opened = opened_field c.args.number g.T.Tagged.tag_byte g.T.ValueContent.fault _ _ _ _
    c.in_ok-field.ensures.found c.context-tag.ensures in
    let left = rw c.remaining_input-input.ensures at c.fail_at.ensures.1 in
    search (rules, opened.1, c.fail_at.ensures.0, c.in-Err.ensures.reads.kind)
