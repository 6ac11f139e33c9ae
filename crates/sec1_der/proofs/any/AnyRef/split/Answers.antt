use Rattle.std.proofs.Common.{◌≡◌, ◌++◌, ◌∙◌, List, [], ℕ, rules, sym}
use Rattle.std.proofs.Math.Seq.{take-append_seam, drop-append_seam}
use Rattle.std.proofs.lemmas.List.{append-nil}
use Rattle.sec1_der.specs.Elements.{element}
use Rattle.sec1_der.specs.Faults.{no_fault}
use Rattle.sec1_der.proofs.FaultLaws.{any_room}
use Rattle.sec1_der.proofs.any.AnyRef.split.Goals as goal

-- nothing follows the element
alone : (bytes : List ℕ) (tag : ℕ) (content : List ℕ) → bytes ≡ element tag content
    → bytes ≡ element tag content ++ []
alone bytes tag content is = is ∙ sym (append-nil (element tag content))

pub returns-in-Ok-clause-only : goal.returns-in-Ok-clause-only
returns-in-Ok-clause-only c tag content rest h is =
    let same = c.in-Ok.ensures.only tag content rest h is in
    let front = take-append_seam content rest in
    let back = drop-append_seam content rest in
    search rules

pub returns-in-Ok-clause-whole : goal.returns-in-Ok-clause-whole
returns-in-Ok-clause-whole c tag content h is =
    returns-in-Ok-clause-only c tag content [] h (alone _ tag content is)

pub returns-in-Ok-clause-element : goal.returns-in-Ok-clause-element
returns-in-Ok-clause-element c is =
    let whole = returns-in-Ok-clause-whole c is.tag is.content is.is_header is.encoded in
    let encoded = is.encoded in
    (cc, whole.2)

pub returns-in-Err-clause-whole : goal.returns-in-Err-clause-whole
returns-in-Err-clause-whole c tag content h is = c.in-Err.ensures.only tag content [] h (alone _ tag content is)

pub returns-in-Err-clause-element : goal.returns-in-Err-clause-element
returns-in-Err-clause-element c is = returns-in-Err-clause-whole c is.tag is.content is.is_header is.encoded

pub returns-in-Ok-clause-kind : goal.returns-in-Ok-clause-kind
returns-in-Ok-clause-kind c =
    let (is, read, room) = c.in-Ok.ensures.found in
    any_room (λ _. no_fault) no_fault _ _ _ _ is read room
