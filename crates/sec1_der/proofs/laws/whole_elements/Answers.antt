use Rattle.sec1_der.proofs.FaultLaws.{element_at, any_at}
use Rattle.sec1_der.proofs.laws.whole_elements.Goals as goal
use Rattle.std.proofs.Common.{refl}

pub returns-clause-element : goal.returns-clause-element
returns-clause-element c inside after tag content rest fits = element_at inside after tag content _ rest fits refl

pub returns-clause-any : goal.returns-clause-any
returns-clause-any c inside after tag content rest is = any_at inside after tag content _ rest is refl
