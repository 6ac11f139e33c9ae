use Rattle.std.proofs.Common.{◌≡◌, ℕ, ◌≤◌, ◌||◌, List, ap, refl, sym, ◌∙◌, arith, append_assoc}
use Rattle.std.proofs.Common.{length, take}
use Rattle.std.proofs.Math.Bool.{or-false, or_assoc}
use Rattle.std.proofs.lemmas.List.{length-take-le}
use Rattle.der_view.specs.Drawings.{decoded_in, has_key, picture_lines, some_key}
use Rattle.der_view.specs.Parts.{content_of}
use Rattle.der_view.specs.Sources.{SourceView, source_view, total_len}
use Rattle.der_view.proofs.DrawingLemmas.{decoded_all, decoded_is, part_written}
use Rattle.der_view.proofs.SourceLemmas.{sources_within}
use Rattle.der_view.proofs.showing.show.Goals as goal

pub loop-source-init : goal.loop-source-init
loop-source-init g c = record {
  room = let total = sources_within c.args.input.now in let same = ap total_len c.new-sources.ensures in omega arith;
  within = omega arith;
  decoded = rw c.new-sources.ensures refl;
  drawn = λ plain end rest. rw c.new-sources.ensures at rest;
  key = λ none. rw c.new-sources.ensures refl;
}

pub loop-source-preserved : goal.loop-source-preserved
loop-source-preserved g c =
    let content = content_of (source_view c.in-Some.source) in
    let new : List ℕ = c.find-found.new.bytes in
    let more : ℕ = c.decoded_len-len.result in
    let fits : more ≤ length new = rw c.decoded_len-len.ensures c.find-found.ensures.1 in
    let is : take more new ≡ decoded_in content =
    rw c.decoded_len-len.ensures (decoded_is c.find-found.result new content c.find-found.ensures) in
    let len : length (decoded_in content) ≡ more = sym (ap length is) ∙ length-take-le more new fits in
    let written = part_written c.loop-source.used _ more c.loop-source.bytes new c.loop-source.invariant.within fits in
    record {
      room = let total = ap total_len c.in-Some.ensures in omega arith;
      within = written.1;
      decoded =
          rw (written.0, is, append_assoc, ← c.loop-source.invariant.decoded, c.in-Some.ensures) refl;
      drawn = λ plain end rest.
          c.loop-source.invariant.drawn plain end
          (rw (c.in-Some.ensures, len) (g.met.W.Output.joined _ _ _ _ _ (c.in_ok-is_key.ensures.text plain) rest));
      key = λ none.
          c.loop-source.invariant.key none
          ∙ (ap (λ (rest : List SourceView). c.loop-source.has_key || some_key rest) c.in-Some.ensures
          ∙ (rw (sym (c.in_ok-is_key.ensures.key none)) (sym (or_assoc c.loop-source.has_key _ _))));
    }

pub returns : goal.returns
unfolding picture_lines has_key
returns g c =
    let end = c.in_default.ensures.0 in
    record {
      plain = λ plain. c.loop-source.invariant.drawn plain _ (rw end (g.met.W.Output.nothing _));
      key = λ none. sym (c.loop-source.invariant.key none ∙ rw end (or-false c.loop-source.has_key));
      decoded = decoded_all _ _ _ _ (rw end at c.loop-source.invariant.decoded) c.loop-source.invariant.within;
    }
