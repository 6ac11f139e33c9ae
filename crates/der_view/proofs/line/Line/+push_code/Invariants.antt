use Rattle.der_view.proofs.line.Line.+push_code.Given as goal

abbrev pub decreases-push_code : goal.decreases-push_code
decreases-push_code l = l.number
