use Rattle.std.proofs.Common.{◌≡◌, ◌++◌}
use Rattle.sec1_der.specs.Identifiers.{dotted, further_text}
use Rattle.der_view.specs.Lines.{kept}
use Rattle.der_view.specs.Values.{arcs_view}
use Rattle.der_view.proofs.line.Line.push_arcs.Given as goal

abbrev pub invariant-loop-arc : goal.invariant-loop-arc
invariant-loop-arc l =
    kept (l.self ++ further_text (arcs_view l.arc-iterator)) ≡ kept (l.fn.self ++ dotted (arcs_view l.arcs))
