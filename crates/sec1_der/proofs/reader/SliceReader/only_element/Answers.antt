use Rattle.std.proofs.Common.{[], ap, ◌∙◌, append-nil, rules}
use Rattle.std.proofs.lemmas.Bool.{false≢true}
use Rattle.std.proofs.lemmas.Result.{err_from_is_err_and}
use Rattle.sec1_der.specs.Readers.{Reader}
use Rattle.sec1_der.specs.Faults.{end_fault}
use Rattle.sec1_der.proofs.ElementFaultLemmas.{read_whole}
use Rattle.sec1_der.proofs.ElementLaws.{element_of-some}
use Rattle.sec1_der.proofs.FaultLaws.{reads_on, reader_at}
use Rattle.sec1_der.proofs.reader.SliceReader.only_element.Goals as goal

pub returns-in_err-value-clause-reads : goal.returns-in_err-value-clause-reads
returns-in_err-value-clause-reads g c = record {
  found = search rules;
  read = search rules;
  only = λ fresh value is.
      let there = element_of-some g.T.Tagged.tag_byte (g.T.ValueContent.content value) c.args.self.now.unread is in
      absurd (c.in_err-value.ensures.only value there.inside [] there.same there.at.bounded
      (rw append-nil (reader_at _ _ there.at.encoded fresh))).0;
  kinds = search rules;
  kind = search rules;
  failed = search rules;
  refused = search rules;
}

pub returns-in_err-value-clause-rule : goal.returns-in_err-value-clause-rule
returns-in_err-value-clause-rule g c content within e =
    let refused = c.in_err-value.ensures.rule content [] within (rw append-nil e) in search rules

pub returns-in_err-finish-clause-reads : goal.returns-in_err-finish-clause-reads
returns-in_err-finish-clause-reads g c =
    let first = reads_on g.T.ValueContent.fault _ _ _ _ c.in_ok-value.ensures.found in
    let refusal = err_from_is_err_and c.from_residual-in_err-finish.result c.from_residual-in_err-finish.ensures.1 in
    let left = first.left in
    record {
      found = search rules;
      read = search rules;
      only = λ fresh value is.
          let there = element_of-some g.T.Tagged.tag_byte (g.T.ValueContent.content value) c.args.self.now.unread is in
          absurd (false≢true
          (c.in_err-finish.ensures.only (c.in_ok-value.ensures.only value there.inside [] there.same there.at.bounded
          (rw append-nil (reader_at _ _ there.at.encoded fresh))).1));
      kinds = search rules;
      kind = λ fresh.
          rw (refusal.1, refusal.2, first.next end_fault) (c.in_err-finish.ensures.refused.kind first.whole);
      failed = search rules;
      refused = search rules;
    }

pub returns-in_err-finish-clause-rule : goal.returns-in_err-finish-clause-rule
returns-in_err-finish-clause-rule g c content within e =
    absurd (false≢true
    (c.in_err-finish.ensures.only (c.in_ok-value.ensures.rule content [] within (rw append-nil e)).2))

pub returns-clause-reads : goal.returns-clause-reads
returns-clause-reads g c =
    let found = read_whole _ _ _ _ _ c.in_ok-value.ensures.found c.in_ok-finish.ensures.found.0 in
    let next = (reads_on g.T.ValueContent.fault _ _ _ _ c.in_ok-value.ensures.found).next end_fault in
    let end = ap (λ (r : Reader). end_fault r.unread) c.in_ok-finish.ensures.found.0 in
    search (rules, next ∙ end)
