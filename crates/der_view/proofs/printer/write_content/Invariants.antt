use Rattle.der_view.specs.Printing.{as_shown, content_lines}
use Rattle.der_view.proofs.printer.write_content.Given as goal

abbrev pub invariant-loop-line : goal.invariant-loop-line
invariant-loop-line g l = g.W.Output.appends l.initial.writer l.writer (as_shown (content_lines l.content l.line))
