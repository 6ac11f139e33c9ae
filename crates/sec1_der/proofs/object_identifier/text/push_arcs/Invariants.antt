use Rattle.std.proofs.Common.{◌≡◌, ◌+◌, ◌≤◌, ◌++◌, length}
use Rattle.sec1_der.specs.Identifiers.{dotted, further_text, max_text_length}
use Rattle.sec1_der.proofs.object_identifier.text.push_arcs.Given as goal

abbrev pub invariant-loop-arc : goal.invariant-loop-arc
invariant-loop-arc l =
    (l.text.bytes ++ further_text l.arc-iterator ≡ dotted l.fn.arcs)
    × (length l.text.bytes + length (further_text l.arc-iterator) ≤ max_text_length)
