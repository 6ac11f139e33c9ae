use Rattle.std.proofs.Common.{true, ◌≡◌, ap, rules, sym, ◌∙◌, slice_get, Some}
use Rattle.std.proofs.Math.Seq.{take-append_seam, drop-append_seam}
use Rattle.sec1_der.specs.Elements.{is_tag}
use Rattle.sec1_der.specs.Readers.{Reader}
use Rattle.sec1_der.specs.Faults.{no_fault}
use Rattle.sec1_der.proofs.FaultLaws.{any_room}
use Rattle.sec1_der.proofs.ElementFaultLemmas.{element_next}
use Rattle.sec1_der.proofs.reader.SliceReader.open.Goals as goal

pub returns-in-Ok-clause-only : goal.returns-in-Ok-clause-only
returns-in-Ok-clause-only c content rest within is =
    let tag = rw c.byte.ensures.0 at c.byte.ensures.1 in
    let same = c.in-Ok.ensures.only c.args.tag content rest (record { tag_byte = tag; bounded = within })
    (c.remaining_input-2.ensures ∙ ap (λ (r : Reader). r.unread) is) in
    let front = take-append_seam content rest in
    let back = drop-append_seam content rest in
    search rules

pub returns-in-Ok-clause-refused : goal.returns-in-Ok-clause-refused
returns-in-Ok-clause-refused c =
    let (is, read, room) = c.in-Ok.ensures.found in
    let tag : is_tag c.args.tag ≡ true = rw c.byte.ensures.0 at c.byte.ensures.1 in
    let none = any_room (λ _. no_fault) no_fault _ _ _ _ is (sym c.remaining_input-2.ensures ∙ read) room in
    let first : slice_get c.args.self.now.unread 0 ≡ Some c.args.tag = search rules in
    let next = element_next no_fault no_fault c.args.tag c.args.self.now.unread tag first in
    search (rules, next ∙ none)

pub returns-in-Err-clause-refused : goal.returns-in-Err-clause-refused
returns-in-Err-clause-refused c =
    let tag : is_tag c.args.tag ≡ true = rw c.byte.ensures.0 at c.byte.ensures.1 in
    let first : slice_get c.args.self.now.unread 0 ≡ Some c.args.tag = search rules in
    let next = element_next no_fault no_fault c.args.tag c.args.self.now.unread tag first in
    let kind = rw c.remaining_input-2.ensures at (c.in-Err.ensures.found.1 (λ _. no_fault) no_fault) in
    search (rules, next ∙ kind, c.fail-in-Err.ensures.0)
