use Rattle.std.proofs.lemmas.Bool.{false≢true}
use Rattle.std.proofs.lemmas.Result.{err_from_is_err_and}
use Rattle.sec1_der.proofs.KindLaws.{said_kind}
use Rattle.sec1.specs.KeyFaults.{key_fault}
use Rattle.sec1.proofs.KeyLemmas.{key_says, key_written}
use Rattle.sec1.proofs.KeyReadingLemmas.{key_read, key_refused}
use Rattle.sec1.proofs.borrowed_key.BorrowedKeyTryFromRefSliceU8.try_from.Goals as goal

pub returns-in_err-read_in_place : goal.returns-in_err-read_in_place
unfolding key_fault
returns-in_err-read_in_place c =
    let answered = err_from_is_err_and c.from_residual.result c.from_residual.ensures.1 in
    let read = c.in_err-read_in_place.ensures.read in
    let cause = c.in_err-read_in_place.field-0.0 in
    let input = c.args.bytes.now in
    rw (answered.1, answered.2)
    (key_refused c.cut_elements.ensures.element input cause read.kinds
    (said_kind key_fault input cause.kind key_says read.kind)
    (λ key is. absurd (false≢true (read.only key (key_written key input is))))
    (λ key bytes is begins. c.in_err-read_in_place.ensures.long key bytes (key_written key bytes is) begins))

pub returns : goal.returns
unfolding key_fault
returns c =
    let read = c.in_ok-read_in_place.ensures.read in
    key_read c.cut_elements.ensures.element c.trees_unique.ensures c.content_injective.ensures
    c.args.bytes.now c.read_in_place.new.place read.found read.kind
    (λ key bytes is begins. c.in_ok-read_in_place.ensures.long key bytes (key_written key bytes is) begins)
