use Rattle.der_view.specs.Drawings.{bytes_lines}
use Rattle.der_view.proofs.showing.show_part.Goals as goal

pub returns-clause-text : goal.returns-clause-text
unfolding bytes_lines
returns-clause-text g c = λ plain.
    let rows = rw c.plan_of-plan.ensures at (c.in_ok-write_rows.ensures plain) in
    let said =
    rw (c.known_of-known.ensures, c.plan_of-plan.ensures, c.is_read_as_key-is_key.ensures, c.file_words-file.ensures)
    at c.in_ok-write_said.ensures in
    g.met.W.Output.joined _ _ _ _ _ rows said
