use Rattle.std.proofs.Common.{refl}
use Rattle.sec1_der.proofs.ElementFaultLemmas.{longer_fault}
use Rattle.sec1_der.proofs.laws.longer_elements.Goals as goal

pub returns-clause-document : goal.returns-clause-document
returns-clause-document c tag content bytes is more =
    longer_fault bytes _ (record { tag = tag; content = content; is_header = is; encoded = refl }) more
