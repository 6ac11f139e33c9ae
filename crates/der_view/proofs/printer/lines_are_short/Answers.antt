use Rattle.der_view.proofs.PrintingLemmas.{rows_are}
use Rattle.der_view.proofs.printer.lines_are_short.Goals as goal

pub returns : goal.returns
returns c = rows_are c.args.plan c.args.all
