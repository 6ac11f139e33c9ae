use Rattle.std.proofs.Common.{◌≡◌, length, take, arith, rules, take_all, inl, inr, refl}
use Rattle.std.proofs.lemmas.Grind.{common_steps}
use Rattle.std.proofs.lemmas.Result.{err_from_is_err_and}
use Rattle.sec1_der.proofs.StreamLemmas.{reads_more, fewer_in_all}
use Rattle.sec1_der.proofs.document.stream.read_content.Goals as goal

pub returns-in_err-fill : goal.returns-in_err-fill
returns-in_err-fill g c =
    let fewer = c.in_err-fill.ensures.1 in
    let p = err_from_is_err_and c.from_residual-in_err-fill.result c.from_residual-in_err-fill.ensures.1 in
    let all = fewer_in_all _ _ _ _ _ _ _ _ c.loop-missing.missing _ c.loop-missing.invariant.read (omega arith)
    (fewer.0, fewer.1, grind (arith, common_steps, fewer.2)) in
    rw (p.1, p.2) ((λ _. c.in_err-fill.ensures.0, λ _. refl), all, inl (inl refl))

pub returns-then-branch-step : goal.returns-then-branch-step
returns-then-branch-step g c =
    let size : length c.fill.new.buf ≡ c.min-step.result = grind (arith, common_steps) in
    rw c.into.ensures (
      search rules,
      fewer_in_all _ _ _ _ _ _ _ _ c.loop-missing.missing _ c.loop-missing.invariant.read (omega arith)
          (_, c.in_ok-fill.ensures.2, grind (arith, common_steps)),
      inr (refl, c.in_ok-fill.ensures.3 (omega (arith, size, c.if-branch-step.true))),
    )

pub loop-missing-preserved : goal.loop-missing-preserved
loop-missing-preserved g c =
    let size : length c.fill.new.buf ≡ c.min-step.result = grind (arith, common_steps) in
    let front : take c.len-old_len.result c.deref_mut.result.now ≡ c.loop-missing.bytes.items = grind
    (arith, common_steps) in
    let all = take_all c.in_ok-fill.field-0 c.fill.new.buf (omega arith) in
    record {
      read = reads_more _ _ _ _ _ _ _ _ _ _ _ c.loop-missing.invariant.read (omega arith)
          (record {
            bytes = _;
            taken = rw all at c.in_ok-fill.ensures.2;
            appended = grind (arith, common_steps);
            count = size;
          });
      few = omega arith;
      unfailed = search rules;
    }
