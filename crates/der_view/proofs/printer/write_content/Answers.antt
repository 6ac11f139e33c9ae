use Rattle.der_view.proofs.PrintingLemmas.{content_written}
use Rattle.der_view.proofs.printer.write_content.Goals as goal

pub loop-line-preserved : goal.loop-line-preserved
loop-line-preserved g c =
    content_written g.W.Output.appends g.met.W.Output.joined _ _ _ c.args.content.now _ c.loop-line.line
    (rw (c.split-in-loop-line.ensures.front, c.split.ensures.rest) at c.content_line.ensures) c.loop-line.invariant
    c.in_ok-write_line.ensures
