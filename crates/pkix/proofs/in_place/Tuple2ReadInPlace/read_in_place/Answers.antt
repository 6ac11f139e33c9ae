use Rattle.std.proofs.Common.{◌++◌, append_assoc, rules, arith}
use Rattle.std.proofs.lemmas.Bool.{and_parts}
use Rattle.std.proofs.lemmas.Grind.{common_steps}
use Rattle.sec1_der.proofs.ComponentLemmas.{joined}
use Rattle.sec1_der.proofs.FaultLaws.{left_after}
use Rattle.sec1_der.proofs.JoinLaws.{parted}
use Rattle.sec1_der.proofs.PartLemmas.{next_first, next_second}
use Rattle.pkix.proofs.in_place.Tuple2ReadInPlace.read_in_place.Goals as goal

pub returns-in-Err : goal.returns-in-Err
returns-in-Err g c = record {
  exact = search rules;
  only = λ part whole rest distinct same next is.
      let all = parted _ _ whole same in
      let tags = and_parts _ _ distinct in
      let more = and_parts _ _ tags.1 in
      let after = next_first g.P.Part.tags g.Q.Part.tags all.back rest more.1
      (g.Q.Part.begins part.1 all.back all.second_there) next in
      absurd (c.in-Err.ensures.only part.0 all.front (all.back ++ rest) tags.0 all.first_there after
      (rw (all.joined, append_assoc) at is)).0;
}

pub returns-in-Err-read_in_place : goal.returns-in-Err-read_in_place
returns-in-Err-read_in_place g c = record {
  exact =
      let left = left_after _ _ _ _ c.in-Ok.ensures.exact.0 c.in-Err-read_in_place.ensures.exact.3 in search rules;
  only = λ part whole rest distinct same next is.
      let all = parted _ _ whole same in
      let tags = and_parts _ _ distinct in
      let more = and_parts _ _ tags.1 in
      let after = next_first g.P.Part.tags g.Q.Part.tags all.back rest more.1
      (g.Q.Part.begins part.1 all.back all.second_there) next in
      let first = c.in-Ok.ensures.only part.0 all.front (all.back ++ rest) tags.0 all.first_there after
      (rw (all.joined, append_assoc) at is) in
      absurd (c.in-Err-read_in_place.ensures.only part.1 all.back rest more.0 all.second_there
      (next_second g.P.Part.tags g.Q.Part.tags rest next) first.1).0;
}

pub returns-in-Ok-read_in_place : goal.returns-in-Ok-read_in_place
returns-in-Ok-read_in_place g c = record {
  exact = (grind (arith, common_steps, joined), search rules);
  only = λ part whole rest distinct same next is.
      let all = parted _ _ whole same in
      let tags = and_parts _ _ distinct in
      let more = and_parts _ _ tags.1 in
      let after = next_first g.P.Part.tags g.Q.Part.tags all.back rest more.1
      (g.Q.Part.begins part.1 all.back all.second_there) next in
      let first = c.in-Ok.ensures.only part.0 all.front (all.back ++ rest) tags.0 all.first_there after
      (rw (all.joined, append_assoc) at is) in
      let second = c.in-Ok-read_in_place.ensures.only part.1 all.back rest more.0 all.second_there
      (next_second g.P.Part.tags g.Q.Part.tags rest next) first.1 in
      (rw all.joined (joined _ _ all.front all.back first.0 second.0), second.1);
}
