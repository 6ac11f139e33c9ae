use Rattle.std.proofs.Common.{◌++◌, append_assoc, rules, arith}
use Rattle.std.proofs.lemmas.Grind.{common_steps}
use Rattle.sec1_der.proofs.ComponentLemmas.{joined}
use Rattle.sec1_der.proofs.FaultLaws.{left_after}
use Rattle.sec1_der.proofs.JoinLaws.{parted}
use Rattle.sec1_der.proofs.PartLemmas.{all_three, next_first, next_second}
use Rattle.sec1_der.proofs.part.Tuple2DecodePart.decode_part.Goals as goal

pub returns-in_err-first : goal.returns-in_err-first
returns-in_err-first g c = record {
  exact = search rules;
  only = λ part whole rest distinct same next is.
      let all = parted _ _ whole same in
      let tags = all_three _ _ _ distinct in
      let after = next_first g.P.Part.tags g.Q.Part.tags all.back rest tags.2
      (g.Q.Part.begins part.1 all.back all.second_there) next in
      absurd (c.in_err-first.ensures.only part.0 all.front (all.back ++ rest) tags.0 all.first_there after
      (rw (all.joined, append_assoc) at is)).0;
}

pub returns-in_err-second : goal.returns-in_err-second
returns-in_err-second g c = record {
  exact = let left = left_after _ _ _ _ c.in_ok-first.ensures.exact.0 c.in_err-second.ensures.exact.3 in search rules;
  only = λ part whole rest distinct same next is.
      let all = parted _ _ whole same in
      let tags = all_three _ _ _ distinct in
      let after = next_first g.P.Part.tags g.Q.Part.tags all.back rest tags.2
      (g.Q.Part.begins part.1 all.back all.second_there) next in
      let first = c.in_ok-first.ensures.only part.0 all.front (all.back ++ rest) tags.0 all.first_there after
      (rw (all.joined, append_assoc) at is) in
      absurd (c.in_err-second.ensures.only part.1 all.back rest tags.1 all.second_there
      (next_second g.P.Part.tags g.Q.Part.tags rest next) first.1).0;
}

pub returns : goal.returns
returns g c = record {
  exact = (grind (arith, common_steps, joined), search rules);
  only = λ part whole rest distinct same next is.
      let all = parted _ _ whole same in
      let tags = all_three _ _ _ distinct in
      let after = next_first g.P.Part.tags g.Q.Part.tags all.back rest tags.2
      (g.Q.Part.begins part.1 all.back all.second_there) next in
      let first = c.in_ok-first.ensures.only part.0 all.front (all.back ++ rest) tags.0 all.first_there after
      (rw (all.joined, append_assoc) at is) in
      let second = c.in_ok-second.ensures.only part.1 all.back rest tags.1 all.second_there
      (next_second g.P.Part.tags g.Q.Part.tags rest next) first.1 in
      (rw all.joined (joined _ _ all.front all.back first.0 second.0), second.1);
}
