use Rattle.std.proofs.Common.{refl, ◌∙◌, rules}
use Rattle.der_types.proofs.DefaultLemmas.{as_optional, from_optional, default_empty}
use Rattle.der_types.proofs.default.DefaultedDecodePart.decode_part.Goals as goal

pub returns-in_err-part : goal.returns-in_err-part
returns-in_err-part g c = record {
  exact = search rules;
  only = λ part whole rest distinct same may is.
      let there = as_optional g.A.Tagged.tag_byte g.A.HasDefault.default_content g.A.ValueContent.content part ∙ same in
      absurd (c.in_err-part.ensures.only _ whole rest refl there may is).0;
}

pub returns-in-Some : goal.returns-in-Some
returns-in-Some g c = record {
  exact = search rules;
  only = λ part whole rest distinct same may is.
      let there = as_optional g.A.Tagged.tag_byte g.A.HasDefault.default_content g.A.ValueContent.content part ∙ same in
      let read = c.in_ok-part.ensures.only _ whole rest refl there may is in
      let found = rw (← c.part.view_is, c.in-Some.is) at read.0 in (
        from_optional _ _ (g.A.ValueContent.content c.value.inside.0) whole
            (rw (← (c.value.view_is ∙ c.in-Some.value-is)) at found),
        read.1,
      );
}

pub returns-in-None : goal.returns-in-None
returns-in-None g c = record {
  exact = search rules;
  only = λ part whole rest distinct same may is.
      let there = as_optional g.A.Tagged.tag_byte g.A.HasDefault.default_content g.A.ValueContent.content part ∙ same in
      let read = c.in_ok-part.ensures.only _ whole rest refl there may is in
      let found = rw (← c.part.view_is, c.in-None.is) at read.0 in (
        default_empty g.A.Tagged.tag_byte g.A.HasDefault.default_content g.A.ValueContent.content _
            c.default_value.result g.met.A.HasDefault.has_content c.default_value.ensures ∙ found,
        read.1,
      );
}
