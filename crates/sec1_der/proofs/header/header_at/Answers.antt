use Rattle.std.proofs.Common.{◌≡◌, ◌∷◌, ◌∙◌, ◌-◌, ap, sym, refl, arith, length, length-append, drop, take, get_or, Some}
use Rattle.sec1_der.specs.Elements.{length_octets}
use Rattle.sec1_der.proofs.ElementFaultLemmas.{any_without_header, length_at_lacks}
use Rattle.sec1_der.proofs.LengthLaws.{len_apart}
use Rattle.sec1_der.proofs.LengthLemmas.{two_bytes, some_octets}
use Rattle.sec1_der.proofs.header.header_at.Goals as goal

pub returns-in_default-clause-only : goal.returns-in_default-clause-only
returns-in_default-clause-only c tag n rest h e = absurd
    (omega (arith, some_octets n, length-append (length_octets n) rest, ap length e, c.in_default.len_below))

pub returns-in_default-clause-found : goal.returns-in_default-clause-found
returns-in_default-clause-found c = (
  c.short_fault.ensures,
  λ content after. any_without_header content after _
      (λ tag n rest h e. returns-in_default-clause-only c tag n rest h e)
      ∙ ap (λ kind. Some (Some kind)) (sym c.short_fault.ensures),
)

pub returns-in-Err-clause-found : goal.returns-in-Err-clause-found
returns-in-Err-clause-found c =
    let bytes = c.args.bytes.now in
    let after = get_or bytes 1 0 ∷ take (length bytes - 2) (drop 2 bytes) in
    let lacks = length_at_lacks after (λ n rest fits e. cc (c.in-Err.ensures.only n rest fits e)) in
    let tag = c.in-Ok.ensures.0 in
    let front = two_bytes bytes c.in-len2-up.len_at_least in
    let kind = c.in-Err.ensures.found in
    (rw (front, tag, kind) refl, λ content following. rw (front, tag, lacks, kind) refl)

pub returns-clause-only : goal.returns-clause-only
returns-clause-only c tag n rest h e =
    let split = sym (two_bytes _ c.in-len2-up.len_at_least) ∙ e in
    let first : get_or c.args.bytes.now 0 0 ≡ tag = ap (λ xs. get_or xs 0 0) e in
    let same = len_apart _ n _ rest (sym c.in-Ok-length_at.ensures.found.1 ∙ ap (drop 1) split) in
    (rw (c.in-Ok.ensures.1, first, same.0) refl, same.1)
