use Rattle.std.proofs.Common.{arith}
use Rattle.sec1_dump.proofs.ShownLemmas.{read_all}
use Rattle.sec1_dump.specs.Shown.{limit}
use Rattle.sec1_dump.proofs.output.read_input.Goals as goal

pub returns-in-Ok-clause-read : goal.returns-in-Ok-clause-read
returns-in-Ok-clause-read g c =
    read_all limit (g.R.Read.remaining c.args.reader) c.read_to_end.new.buf.items
    (rw (c.take.ensures.limit, c.take.ensures.inner, c.new-input.ensures.items) at c.in-Ok.ensures.bytes) (omega arith)
