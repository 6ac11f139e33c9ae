use Rattle.sec1_der.proofs.object_identifier.builder.Content.+push_marked.Given as goal

abbrev pub decreases-push_marked : goal.decreases-push_marked
decreases-push_marked l = l.n
