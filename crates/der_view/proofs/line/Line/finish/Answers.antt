use Rattle.std.proofs.Common.{arith}
use Rattle.der_view.proofs.LineLemmas.{shown-line, shows}
use Rattle.der_view.proofs.line.Line.finish.Goals as goal

pub returns-then-text-le-MAX_WIDTH-clause-line : goal.returns-then-text-le-MAX_WIDTH-clause-line
returns-then-text-le-MAX_WIDTH-clause-line c = shown-line c.args.self.now _ (grind (arith, shows))

pub returns-else-text-le-MAX_WIDTH-clause-line : goal.returns-else-text-le-MAX_WIDTH-clause-line
returns-else-text-le-MAX_WIDTH-clause-line c = shown-line c.args.self.now _ (grind (arith, shows))
