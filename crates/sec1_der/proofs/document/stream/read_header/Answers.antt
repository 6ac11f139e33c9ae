use Rattle.std.proofs.Common.{◌≡◌, ◌≤◌, ◌+◌, ◌-◌, ◌<◌, ◌∙◌, length, take, arith, rules, sym, append-nil, inl}
use Rattle.std.proofs.lemmas.Grind.{common_steps}
use Rattle.std.proofs.lemmas.Result.{err_from_is_err_and}
use Rattle.sec1_der.specs.Streams.{Takes}
use Rattle.sec1_der.specs.declared.error.ErrorKind.TheVariants.{Truncated}
use Rattle.sec1_der.proofs.StreamLaws.{takes_kept, takes_more}
use Rattle.sec1_der.proofs.StreamLemmas.{cut_is_short, header_refused, one_more, read_alone, reads_part, taken_here}
use Rattle.sec1_der.proofs.document.stream.read_header.Goals as goal

pub returns-in-Ok : goal.returns-in-Ok
returns-in-Ok g c = record {
  io = search rules;
  found =
      let (is, split) = c.in-Ok.ensures.found in
      read_alone (Takes g.R.Read.left g.R.Read.taken c.args.reader.now c.loop-header.reader) _ _ _ _ is split
      c.loop-header.invariant.reached c.loop-header.invariant.taken;
  refused = tt;
}

pub loop-header-preserved : goal.loop-header-preserved
loop-header-preserved g c =
    let count = c.loop-header.count in
    let octets = c.loop-header.octets in
    let fault = c.in-Err-Truncated.ensures in
    let short = sym (sym c.in-Err-Truncated.field-0-is ∙ fault.found.0) in
    let few = cut_is_short (take count octets) short in
    let inside : count ≤ 5 = grind (arith, common_steps) in
    let size : length c.read.new.buf ≡ 1 = grind (arith, common_steps) in
    let reached = one_more count (count + 1 - count) octets c.read.new.buf (omega arith) short
    (λ tag n rest is e. fault.only tag n rest is e) size in
    let read = c.in_ok-read.ensures in
    let one : c.in_ok-read.field-0 ≡ 1 = omega (arith, read.bound, size, c.if-branch-eq0.false) in
    let taken = reads_part g.R.Read.left g.R.Read.taken _ _ _ count (count + 1 - count) octets c.read.new.buf _
    (omega arith) read.bound c.loop-header.invariant.taken
    (record { consumed = read.bytes.0; appended = read.taken }) in
    record { taken = rw one at taken; reached = reached; few = omega arith; unfailed = search rules }

pub returns-then-branch-eq0 : goal.returns-then-branch-eq0
returns-then-branch-eq0 g c =
    let fault = c.in-Err-Truncated.ensures in
    let short = sym (sym c.in-Err-Truncated.field-0-is ∙ fault.found.0) in
    let read = c.in_ok-read.ensures in
    let none = c.if-branch-eq0.true in
    let size : 0 < length c.read.new.buf = grind (arith, common_steps) in
    let both = takes_more g.R.Read.left g.R.Read.taken _ _ _ _ (take _ c.read.new.buf) c.loop-header.invariant.taken
    (record { consumed = read.bytes.0; appended = read.taken }) in
    let taken = rw (none, append-nil) at both in
    let cut = header_refused Truncated _ (λ tag n rest is e. fault.only tag n rest is e) short in
    search (rules, c.into-then-branch-eq0.ensures, read.bytes.1 none size, read.end none size)

pub returns-in_err-read : goal.returns-in_err-read
returns-in_err-read g c =
    let fault = c.in-Err-Truncated.ensures in
    let short = sym (sym c.in-Err-Truncated.field-0-is ∙ fault.found.0) in
    let p = err_from_is_err_and c.from_residual.result c.from_residual.ensures.1 in
    let taken = takes_kept _ _ _ _ _ _ c.loop-header.invariant.taken c.in_err-read.ensures.bytes
    c.in_err-read.ensures.taken in
    let cut = header_refused Truncated _ (λ tag n rest is e. fault.only tag n rest is e) short in
    rw (p.1, p.2) (search (rules, inl))

pub returns-in-Err : goal.returns-in-Err
returns-in-Err g c =
    let fault = c.in-Err.ensures in
    let other : c.in-Err.kind ≡ Truncated → ⊥ = search rules in
    let here = taken_here _ _ c.loop-header.invariant.reached (λ tag n rest is e. fault.only tag n rest is e)
    (sym fault.found.0) other in
    search (rules, c.into.ensures, here, other)
