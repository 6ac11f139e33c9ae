use Rattle.der_view.proofs.KeyFormLemmas.{key_known}
use Rattle.der_view.proofs.laws.keys_are_known.Goals as goal

pub returns-clause-follow : goal.returns-clause-follow
returns-clause-follow c = λ key a is few. (key_known key a is few).rows
