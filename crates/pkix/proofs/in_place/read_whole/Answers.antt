use Rattle.std.proofs.Common.{◌≡◌, Some, Ok, [], false, ap, rules, ◌∙◌}
use Rattle.std.proofs.lemmas.Bool.{false≢true}
use Rattle.sec1_der.proofs.ElementLaws.{element_of-some}
use Rattle.sec1_der.specs.Faults.{end_fault}
use Rattle.sec1_der.specs.Readers.{Reader}
use Rattle.pkix.proofs.InPlaceLemmas.{opened_passes, opened_refused, opened_whole, over_element, refused_element}
use Rattle.pkix.proofs.in_place.read_whole.Goals as goal

pub returns-in-Err : goal.returns-in-Err
returns-in-Err g c place is-parts = record {
  found = search rules;
  only = λ value is.
      let there = element_of-some 0x30 (g.T.Parts.Part.bytes (g.T.Record.parts value)) c.args.input.now is in
      absurd (cc ((c.in-Err.ensures.only there.inside [] there.at.bounded
      (over_element 0x30 there.inside c.args.input.now _ c.new-reader.ensures there.at.encoded)).0));
  kinds = search rules;
  kind =
      refused_element (g.T.Parts.Part.and_then end_fault) end_fault 0x30 c.args.input.now c.in-Err.e.kind
      (rw c.new-reader.ensures at
      (c.in-Err.ensures.refused.kind (ap (λ (r : Reader). r.failed) c.new-reader.ensures)));
}

pub returns-in-Err-read_parts : goal.returns-in-Err-read_parts
returns-in-Err-read_parts g c place is-parts = record {
  found = search rules;
  only = λ value is.
      let there = element_of-some 0x30 (g.T.Parts.Part.bytes (g.T.Record.parts value)) c.args.input.now is in
      let opened = c.in-Ok.ensures.only there.inside [] there.at.bounded
      (over_element 0x30 there.inside c.args.input.now _ c.new-reader.ensures there.at.encoded) in
      let inside : c.in-Ok.content.unread ≡ there.inside = cc (opened.0) in
      let fresh : c.in-Ok.content.failed ≡ false = cc (opened.0) in
      absurd (false≢true (c.in-Err-read_parts.ensures.only fresh (g.T.Record.parts value) (rw inside there.same)));
  kinds = search rules;
  kind =
      let fresh : c.in-Ok.content.failed ≡ false = ap (λ (r : Reader). r.failed) c.in-Ok.ensures.found.0 in
      rw c.new-reader.ensures at
      (opened_refused (g.T.Parts.Part.and_then end_fault) 0x30 c.in-Ok.content _ _ c.in-Err-read_parts.e.kind
      c.in-Ok.ensures.found.1 (c.in-Err-read_parts.ensures.kind fresh) end_fault);
}

pub returns-in-Ok-finish : goal.returns-in-Ok-finish
returns-in-Ok-finish g c place is-parts = record {
  found = rw is-parts
      (rw c.new-reader.ensures at
      (opened_whole 0x30 (g.T.Parts.Part.bytes c.read_parts.new.place) c.in-Ok.content _ _ c.in-Ok.ensures.found
      c.in-Ok-read_parts.ensures.found c.in-Ok-finish.ensures.found.0));
  only = λ value is.
      let there = element_of-some 0x30 (g.T.Parts.Part.bytes (g.T.Record.parts value)) c.args.input.now is in
      let opened = c.in-Ok.ensures.only there.inside [] there.at.bounded
      (over_element 0x30 there.inside c.args.input.now _ c.new-reader.ensures there.at.encoded) in
      let inside : c.in-Ok.content.unread ≡ there.inside = cc (opened.0) in
      let found : g.T.Parts.Part.bytes (g.T.Record.parts place) ≡ Some there.inside =
      rw (is-parts, c.in-Ok-read_parts.ensures.found) (ap (λ xs. Some xs) inside) in
      ap (λ v. Ok v) (c.content_injective.ensures place value there.inside found there.same);
  kinds = search rules;
  kind =
      let passes = opened_passes (g.T.Parts.Part.and_then end_fault) 0x30 c.in-Ok.content _ _ c.in-Ok.ensures.found
      c.in-Ok-read_parts.ensures.kind in
      rw c.new-reader.ensures at
      (passes.next end_fault ∙ ap (λ (r : Reader). end_fault r.unread) c.in-Ok-finish.ensures.found.0);
}

pub returns-in-Err-finish : goal.returns-in-Err-finish
returns-in-Err-finish g c place is-parts = record {
  found = search rules;
  only = λ value is.
      let there = element_of-some 0x30 (g.T.Parts.Part.bytes (g.T.Record.parts value)) c.args.input.now is in
      let opened = c.in-Ok.ensures.only there.inside [] there.at.bounded
      (over_element 0x30 there.inside c.args.input.now _ c.new-reader.ensures there.at.encoded) in
      absurd (false≢true (c.in-Err-finish.ensures.only opened.1));
  kinds = search rules;
  kind =
      let passes = opened_passes (g.T.Parts.Part.and_then end_fault) 0x30 c.in-Ok.content _ _ c.in-Ok.ensures.found
      c.in-Ok-read_parts.ensures.kind in
      rw (rw c.new-reader.ensures at (passes.next end_fault)) (c.in-Err-finish.ensures.refused.kind passes.whole);
}
