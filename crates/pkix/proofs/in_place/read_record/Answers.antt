use Rattle.std.proofs.Common.{◌≡◌, Some, false, rules}
use Rattle.std.proofs.lemmas.Bool.{false≢true}
use Rattle.sec1_der.proofs.ElementLaws.{element_of-some}
use Rattle.sec1_der.proofs.FaultLaws.{read_end}
use Rattle.sec1_der.specs.Elements.{element, element_of}
use Rattle.sec1_der.specs.Faults.{end_fault}
use Rattle.pkix.proofs.InPlaceLemmas.{opened_read, opened_refused, refused_element}
use Rattle.pkix.proofs.in_place.read_record.Goals as goal

pub returns-in-Err : goal.returns-in-Err
returns-in-Err g c = record {
  exact = (
    search rules,
    search rules,
    λ after. refused_element (g.T.Parts.Part.and_then end_fault) after 0x30 c.args.reader.now.unread
        c.in-Err.e.kind (c.in-Err.ensures.refused.kind c.requires.0),
    search rules,
  );
  only = λ value whole rest distinct same may is.
      let there = element_of-some 0x30 (g.T.Parts.Part.bytes (g.T.Record.parts value)) whole same in
      absurd (cc ((c.in-Err.ensures.only there.inside rest there.at.bounded (rw there.at.encoded at is)).0));
}

pub returns-in-Ok-read_parts : goal.returns-in-Ok-read_parts
returns-in-Ok-read_parts g c = record {
  exact = rw c.from_parts.ensures
      (opened_read _ 0x30 _ _ _ _ c.in-Ok.ensures.found c.in-Ok-read_parts.ensures.found
      c.in-Ok-read_parts.ensures.kind);
  only = λ value whole rest distinct same may is.
      let there = element_of-some 0x30 (g.T.Parts.Part.bytes (g.T.Record.parts value)) whole same in
      let opened = c.in-Ok.ensures.only there.inside rest there.at.bounded (rw there.at.encoded at is) in
      let inside : c.in-Ok.content.unread ≡ there.inside = cc (opened.0) in
      let read : element_of 0x30 (g.T.Parts.Part.bytes (g.T.Record.parts c.from_parts.result)) ≡ Some whole =
      rw (c.from_parts.ensures, c.in-Ok-read_parts.ensures.found, inside) (rw there.same at same) in
      (read, opened.1);
}

pub returns-in-Err-read_parts : goal.returns-in-Err-read_parts
returns-in-Err-read_parts g c = record {
  exact = (
    search rules,
    search rules,
    λ after. opened_refused _ 0x30 c.in-Ok.content _ _ _ c.in-Ok.ensures.found.1 (search rules) after,
    let left = read_end (Some (element 0x30 c.in-Ok.content.unread)) _ _ c.in-Ok.ensures.found.1.read in search rules,
  );
  only = λ value whole rest distinct same may is.
      let there = element_of-some 0x30 (g.T.Parts.Part.bytes (g.T.Record.parts value)) whole same in
      let opened = c.in-Ok.ensures.only there.inside rest there.at.bounded (rw there.at.encoded at is) in
      let inside : c.in-Ok.content.unread ≡ there.inside = cc (opened.0) in
      let fresh : c.in-Ok.content.failed ≡ false = cc (opened.0) in
      absurd (false≢true (c.in-Err-read_parts.ensures.only fresh (g.T.Record.parts value) (rw inside there.same)));
}
