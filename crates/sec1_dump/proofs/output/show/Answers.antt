use Rattle.sec1_dump.proofs.ShownLemmas.{of_read}
use Rattle.sec1_dump.proofs.output.show.Goals as goal

pub returns : goal.returns
returns g c =
    of_read _ (g.R.Read.remaining c.args.reader) c.in_ok-input.input.items c.in_ok-input.ensures.read
    (rw c.as_slice.ensures.value at c.in_ok-has_key.ensures)
