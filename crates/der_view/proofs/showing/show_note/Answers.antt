use Rattle.std.proofs.Common.{refl}
use Rattle.der_view.proofs.DrawingLemmas.{then_on}
use Rattle.der_view.proofs.showing.show_note.Goals as goal

pub returns : goal.returns
returns g c = λ plain.
    then_on g.W.Output.appends g.met.W.Output.joined _ _ _ _ _ _ _ refl
    (rw c.words-2.ensures at c.in_ok-write_text.ensures) (rw c.command-2.ensures at c.write_text-2.ensures)
