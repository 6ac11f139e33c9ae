use Rattle.der_view.proofs.line.Line.push_mark.Goals as goal

pub returns-in-Characters : goal.returns-in-Characters
returns-in-Characters c = rw c.in-Characters.is (rw c.type_word.ensures at c.push_all-in-Characters.ensures)
