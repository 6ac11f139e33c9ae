use Rattle.std.proofs.Common.{◌++◌, take, rules, append_assoc, take-append-drop}
use Rattle.std.proofs.KnownBytes.{Appends-trans}
use Rattle.std.proofs.lemmas.List.{take_rest}
use Rattle.sec1_der.proofs.stream.Write.write_all.Goals as goal

pub loop-rest-preserved : goal.loop-rest-preserved
loop-rest-preserved g c =
    let (front, joined, appended, _) = c.loop-rest.invariant in (
      front ++ take c.in_ok-count.count c.loop-rest.rest.now,
      simp (take_rest, append_assoc, take-append-drop) joined,
      Appends-trans _ _ _ _ _ appended c.in_ok-count.ensures.bytes,
      search rules,
    )
