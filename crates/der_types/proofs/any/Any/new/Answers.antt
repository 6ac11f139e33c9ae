use Rattle.std.proofs.Common.{[], append-nil, refl}
use Rattle.std.proofs.lemmas.Bool.{false≢true}
use Rattle.der_types.proofs.AnyLemmas.{any_there}
use Rattle.der_types.proofs.any.Any.new.Goals as goal

pub returns-in_err-any-clause-only : goal.returns-in_err-any-clause-only
returns-in_err-any-clause-only c is =
    absurd (c.in_err-any.ensures.only _ _ [] refl (any_there c.args.bytes.now is) tt
    (rw append-nil c.new-reader.ensures)).0

pub returns-in_err-finish-clause-only : goal.returns-in_err-finish-clause-only
returns-in_err-finish-clause-only c is =
    let read = c.in_ok-any.ensures.only _ _ [] refl (any_there c.args.bytes.now is) tt
    (rw append-nil c.new-reader.ensures) in
    absurd (false≢true (c.in_err-finish.ensures.only read.1))
