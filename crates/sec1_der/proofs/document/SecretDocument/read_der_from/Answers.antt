use Rattle.sec1_der.proofs.StreamLemmas.{document_kind, document_none}
use Rattle.sec1_der.proofs.document.SecretDocument.read_der_from.Goals as goal

pub returns-clause-kind : goal.returns-clause-kind
returns-clause-kind g c =
    document_kind g.R.Read.left g.R.Read.taken g.R.Read.ended _ _ _ c.read_element.ensures.found
    c.read_element.ensures.refused

pub returns-clause-only : goal.returns-clause-only
returns-clause-only g c = document_none _ _ (returns-clause-kind g c)
