use Rattle.std.proofs.Common.{◌≡◌, ◌++◌, ap, rules, sym, ◌∙◌, [], append-nil, Some, None, ℕ, List}
use Rattle.std.proofs.lemmas.Bool.{false≢true}
use Rattle.sec1_der.specs.Readers.{Reader, reader_over, HasReadElement}
use Rattle.sec1_der.specs.Elements.{element}
use Rattle.sec1_der.specs.Faults.{Fault, no_fault, end_fault, element_fault}
use Rattle.sec1_der.proofs.ElementLaws.{element_of-some}
use Rattle.sec1_der.proofs.FaultLaws.{PassesOver, alone, read_element, reads_on}
use Rattle.sec1_der.proofs.KindLaws.{refused_more}
use Rattle.sec1.proofs.in_place.read_in_place.Goals as goal

-- A reader over an element has nothing after it.
whole : (tag : ℕ) (inside input : List ℕ) (r : Reader) → r ≡ reader_over input → input ≡ element tag inside
    → r ≡ reader_over (element tag inside ++ [])
whole tag inside input r is e = is ∙ ap reader_over (e ∙ sym (append-nil (element tag inside)))

-- Where the content of an element was opened, the fault of the element is that of the content.
opened_fault : (f : Fault) (tag opened : ℕ) (old new content : Reader)
    → (content ≡ reader_over content.unread) × HasReadElement opened content.unread old new → opened ≡ tag
    → element_fault tag f no_fault old.unread ≡ f content.unread
opened_fault f tag opened old new content found same =
    read_element f no_fault tag content.unread old new (rw same at found.1) ∙ alone _

-- Where the content of an element was opened and isn't refused, the fault is that of what follows.
passes : (f : Fault) (tag opened : ℕ) (old new content : Reader)
    → (content ≡ reader_over content.unread) × HasReadElement opened content.unread old new → opened ≡ tag
    → f content.unread ≡ None → PassesOver (element_fault tag f) old new
passes f tag opened old new content found same none =
    reads_on f tag (Some content.unread) old new (none, rw same at found.1)

pub returns-in-Err-clause-read : goal.returns-in-Err-clause-read
returns-in-Err-clause-read g c = record {
  found = search rules;
  only = λ value is.
      let there = element_of-some g.T.Tagged.tag_byte (g.T.ValueContent.content value) c.args.input.now is in
      absurd (cc ((c.in-Err.ensures.only there.inside [] there.at.bounded
      (rw c.fixed_tag.ensures
      (whole g.T.Tagged.tag_byte there.inside c.args.input.now _ c.new-reader.ensures there.at.encoded))).0));
  kinds = search rules;
  kind = search rules;
}

pub returns-in-Ok-read_content-clause-read : goal.returns-in-Ok-read_content-clause-read
returns-in-Ok-read_content-clause-read g c = record {
  found = search rules;
  only = λ value is.
      let there = element_of-some g.T.Tagged.tag_byte (g.T.ValueContent.content value) c.args.input.now is in
      let opened = c.in-Ok.ensures.only there.inside [] there.at.bounded
      (rw c.fixed_tag.ensures
      (whole g.T.Tagged.tag_byte there.inside c.args.input.now _ c.new-reader.ensures there.at.encoded)) in
      c.finish.ensures.only opened.1;
  kinds = search rules;
  kind =
      let passed = passes g.T.ValueContent.fault _ _ _ _ _ c.in-Ok.ensures.found c.fixed_tag.ensures
      (rw c.remaining_input-content.ensures at c.in-Ok-read_content.ensures.kind) in
      rw (rw c.new-reader.ensures at (passed.next end_fault)) (c.finish.ensures.refused.kind passed.whole);
}

pub returns-in-Err-read_content-clause-read : goal.returns-in-Err-read_content-clause-read
returns-in-Err-read_content-clause-read g c = record {
  found = search rules;
  only = λ value is.
      let there = element_of-some g.T.Tagged.tag_byte (g.T.ValueContent.content value) c.args.input.now is in
      let opened = c.in-Ok.ensures.only there.inside [] there.at.bounded
      (rw c.fixed_tag.ensures
      (whole g.T.Tagged.tag_byte there.inside c.args.input.now _ c.new-reader.ensures there.at.encoded)) in
      let same : c.remaining_input-content.result.now ≡ there.inside =
      cc (opened.0, c.remaining_input-content.ensures) in
      absurd (false≢true (c.in-Err-read_content.ensures.only value (rw same there.same)));
  kinds = search rules;
  kind =
      let opened = opened_fault g.T.ValueContent.fault _ _ _ _ _ c.in-Ok.ensures.found c.fixed_tag.ensures in
      refused_more g.T.ValueContent.fault end_fault g.T.Tagged.tag_byte c.args.input.now _
      (rw (rw c.new-reader.ensures at opened)
      (rw c.remaining_input-content.ensures at c.in-Err-read_content.ensures.kind));
}
