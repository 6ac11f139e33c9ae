use Rattle.std.proofs.Common.{rules}
use Rattle.sec1_der.proofs.ElementFaultLemmas.{opened_element}
use Rattle.sec1_der.proofs.reader.SliceReader.decode.Goals as goal

pub returns-in-Ok-clause-refused : goal.returns-in-Ok-clause-refused
returns-in-Ok-clause-refused g c =
    let opened = opened_element g.T.ValueContent.fault _ _ _ _ _ c.in_ok-content.ensures.found c.fixed_tag.ensures in
    search (rules, opened.1, c.in-Ok.ensures.kind)

pub returns-in-Err-clause-refused : goal.returns-in-Err-clause-refused
returns-in-Err-clause-refused g c =
    let opened = opened_element g.T.ValueContent.fault _ _ _ _ _ c.in_ok-content.ensures.found c.fixed_tag.ensures in
    let left = rw c.remaining_input-start.ensures at c.fail_at.ensures.1 in
    search (rules, opened.1, c.fail_at.ensures.0, c.in-Err.ensures.kind)
