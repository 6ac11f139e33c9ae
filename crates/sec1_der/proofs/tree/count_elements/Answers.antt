use Rattle.std.proofs.Common.{◌∙◌, sym, refl, arith}
use Rattle.std.proofs.lemmas.Bool.{iff_false}
use Rattle.sec1_der.proofs.CheckLemmas.{root_next, child_next, entered, closed}
use Rattle.sec1_der.proofs.ForestFaultLemmas.{next_refused}
use Rattle.sec1_der.proofs.tree.count_elements.Goals as goal

pub loop-nodes-init : goal.loop-nodes-init
loop-nodes-init c =
    entered (root_next c.args.input.now c.new-nodes.result c.new-nodes.ensures) c.in_ok-rest.ensures

pub loop-nodes-preserved-then-rest-end : goal.loop-nodes-preserved-then-rest-end
loop-nodes-preserved-then-rest-end c =
    closed c.loop-nodes.invariant (iff_false c.loop-nodes-test.ensures refl) c.close.ensures
    (c.if-rest-end.true ∙ c.end.ensures)

pub loop-nodes-preserved : goal.loop-nodes-preserved
loop-nodes-preserved c =
    entered (child_next c.loop-nodes.invariant (iff_false c.loop-nodes-test.ensures refl)
    (λ same. c.if-rest-end.false (same ∙ sym c.end.ensures)))
    c.in_ok-rest-2.ensures

pub returns-in_err-rest-clause-kind : goal.returns-in_err-rest-clause-kind
returns-in_err-rest-clause-kind c =
    let next = root_next c.args.input.now c.new-nodes.result c.new-nodes.ensures in
    let fault = next.fault_is
    ∙ next_refused _ _ c.in_err-rest.field-0.0.kind c.in_err-rest.ensures in
    grind arith

pub returns-in_err-rest-2-clause-kind : goal.returns-in_err-rest-2-clause-kind
returns-in_err-rest-2-clause-kind c =
    let next = child_next c.loop-nodes.invariant (iff_false c.loop-nodes-test.ensures refl)
    (λ same. c.if-rest-end.false (same ∙ sym c.end.ensures)) in
    let fault = next.fault_is
    ∙ next_refused _ _ c.in_err-rest-2.field-0.0.kind c.in_err-rest-2.ensures in
    grind arith
