use Rattle.std.proofs.Common.{◌≡◌, ◌⊎◌, arith, inl, inr, refl}
use Rattle.std.proofs.lemmas.Bool.{iff_false}
use Rattle.std.proofs.lemmas.Result.{err_from_is_err_and}
use Rattle.sec1_der.specs.Elements.{IsConstructed}
use Rattle.sec1_der.proofs.EnterLemmas.{opens_at, passes_at}
use Rattle.sec1_der.proofs.tree.OpenNodes.enter.Goals as goal
use Rattle.sec1_der.proofs.tree.OpenNodes.enter.Goals.{else-length-gt0-via-then-length-gt0+else-is_constructed}
use Rattle.sec1_der.proofs.tree.OpenNodes.enter.Goals.{else-length-gt0-via-else-length-gt0}

pub returns-in_err-open : goal.returns-in_err-open
returns-in_err-open c =
    let opens = opens_at _ _ _ _ _ _ _ c.in-Ok.ensures.found c.end-end.ensures c.get-length.ensures.0
    (omega (arith, c.if-length-gt0.true, c.get-length.ensures.0)) (c.if-is_constructed.ensures.0 refl) in
    let refusal = err_from_is_err_and c.from_residual.result c.from_residual.ensures.1 in
    rw (refusal.1, refusal.2)
    (inl (c.in_err-open.ensures.0, c.in_err-open.ensures.1, (_, _, opens)))

pub returns-in_ok-open : goal.returns-in_ok-open
returns-in_ok-open c =
    let opens = opens_at _ _ _ _ _ _ _ c.in-Ok.ensures.found c.end-end.ensures c.get-length.ensures.0
    (omega (arith, c.if-length-gt0.true, c.get-length.ensures.0)) (c.if-is_constructed.ensures.0 refl) in
    let opened = c.in_ok-open.ensures in
    inr (_, opens, opened.1, opened.0)

pub returns-else-length-gt0 : goal.returns-else-length-gt0
returns-else-length-gt0 c =
    let which : ¬ IsConstructed c.in-Ok.found.0.tag ⊎ (c.in-Ok.found.0.length ≡ 0) =
    elim c.else-length-gt0.branch [
      | else-length-gt0-via-then-length-gt0+else-is_constructed w ↦
          inl (iff_false w.is_constructed.ensures w.if-is_constructed.false)
      | else-length-gt0-via-else-length-gt0 w ↦ inr (omega (arith, w.if-length-gt0.false, c.get-length.ensures.0))
    ] in
    let passes = passes_at _ _ c.args.self.now _ _ _ _ c.in-Ok.ensures.found c.end-end.ensures c.get-length.ensures.0
    which in
    inl (passes, refl)
