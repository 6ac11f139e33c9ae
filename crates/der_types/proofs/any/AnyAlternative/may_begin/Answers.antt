use Rattle.std.proofs.Common.{rules}
use Rattle.der_types.proofs.AnyLemmas.{begins_any}
use Rattle.der_types.proofs.any.AnyAlternative.may_begin.Goals as goal

pub returns : goal.returns
returns c = begins_any c.args.byte _ (search rules) (search rules)
