use Rattle.der_view.proofs.KeyLemmas.{keys_alike}
use Rattle.der_view.proofs.laws.keys_are_alike.Goals as goal

pub returns : goal.returns
returns c = keys_alike
