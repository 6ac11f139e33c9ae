use Rattle.std.proofs.Common.{lit<, arith}
use Rattle.std.proofs.lemmas.List.{length_push}
use Rattle.std.proofs.lemmas.Iterator.Splits.{YieldsList-from_str_split}
use Rattle.std.proofs.lemmas.Iterator.Consumers.{YieldsList-turn, YieldsList-end}
use Rattle.sec1_der.proofs.DottedLemmas.{next_substring, no_substring, read_arc, substring_is_arc, identifier_continues}
use Rattle.sec1_der.proofs.DottedLemmas.{all_read, text_is_dotted}
use Rattle.sec1_der.proofs.IdentifierLemmas.{arcs_small}
use Rattle.sec1_der.proofs.IdentifierLaws.{arcs_allowed}
use Rattle.sec1_der.proofs.object_identifier.ObjectIdentifier.new.Goals as goal

pub returns-in_default-clause-only : goal.returns-in_default-clause-only
returns-in_default-clause-only c arcs id e =
    let split = YieldsList-from_str_split {s = c.into_iter-substring-iterator.result} 46 c.args.text.now (lit< tt) (cc)
    (cc) (cc) in
    let next = next_substring c.loop-substring.invariant
    (YieldsList-turn split _ _ c.loop-substring.yielded_by _ _ _ c.in-Some.is c.next.ensures.steps) in
    grind (arith, substring_is_arc arcs next (arcs_allowed arcs id.allowed) e, c.in_default.ensures)

pub returns-in_err-builder-clause-only : goal.returns-in_err-builder-clause-only
returns-in_err-builder-clause-only c arcs id e =
    let split = YieldsList-from_str_split {s = c.into_iter-substring-iterator.result} 46 c.args.text.now (lit< tt) (cc)
    (cc) (cc) in
    let next = next_substring c.loop-substring.invariant
    (YieldsList-turn split _ _ c.loop-substring.yielded_by _ _ _ c.in-Some.is c.next.ensures.steps) in
    grind (arith, identifier_continues c.in-Some-arc.n arcs next, c.in_err-builder.ensures.1)

pub loop-substring-preserved : goal.loop-substring-preserved
loop-substring-preserved c =
    let split = YieldsList-from_str_split {s = c.into_iter-substring-iterator.result} 46 c.args.text.now (lit< tt) (cc)
    (cc) (cc) in
    let next = next_substring c.loop-substring.invariant
    (YieldsList-turn split _ _ c.loop-substring.yielded_by _ _ _ c.in-Some.is c.next.ensures.steps) in
    grind (arith, read_arc c.in-Some-arc.n next, length_push c.loop-substring.yielded c.in-Some.substring)

pub returns-in-Some-content-clause-exact : goal.returns-in-Some-content-clause-exact
returns-in-Some-content-clause-exact c =
    let split = YieldsList-from_str_split {s = c.into_iter-substring-iterator.result} 46 c.args.text.now (lit< tt) (cc)
    (cc) (cc) in
    let read = no_substring c.loop-substring.invariant
    (YieldsList-end split _ _ c.loop-substring.yielded_by _ _ c.in-None.is c.next.ensures.steps).1 in
    grind (arith, c.of_content.ensures c.loop-substring.builder, text_is_dotted read)

pub returns-in-Some-content-clause-only : goal.returns-in-Some-content-clause-only
returns-in-Some-content-clause-only c arcs id e =
    let split = YieldsList-from_str_split {s = c.into_iter-substring-iterator.result} 46 c.args.text.now (lit< tt) (cc)
    (cc) (cc) in
    let read = no_substring c.loop-substring.invariant
    (YieldsList-end split _ _ c.loop-substring.yielded_by _ _ c.in-None.is c.next.ensures.steps).1 in
    grind (arith, all_read arcs read (arcs_allowed arcs id.allowed) e, c.of_content.ensures c.loop-substring.builder)

pub returns-in-None-content-clause-only : goal.returns-in-None-content-clause-only
returns-in-None-content-clause-only c arcs id e =
    let split = YieldsList-from_str_split {s = c.into_iter-substring-iterator.result} 46 c.args.text.now (lit< tt) (cc)
    (cc) (cc) in
    let read = no_substring c.loop-substring.invariant
    (YieldsList-end split _ _ c.loop-substring.yielded_by _ _ c.in-None.is c.next.ensures.steps).1 in
    grind (arith, all_read arcs read (arcs_allowed arcs id.allowed) e, arcs_small arcs (arcs_allowed arcs id.allowed))
