use Rattle.std.proofs.lemmas.List.{drop-replicate}
use Rattle.sec1_der.proofs.IdentifierLemmas.{content_is_stored}
use Rattle.sec1_der.proofs.object_identifier.ObjectIdentifier.of_content.Goals as goal

pub invariant_of-result : goal.invariant_of-result
invariant_of-result c =
    rw (c.copy_from_slice.ensures.after, drop-replicate)
    (content_is_stored c.requires.0 c.args.content.now c.requires.1).0

pub returns : goal.returns
returns c arcs h = rw (c.copy_from_slice.ensures.after, drop-replicate) (content_is_stored arcs c.args.content.now h).1
