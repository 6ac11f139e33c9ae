use Rattle.std.proofs.Common.{◌≡◌, ap, length, rules, inr}
use Rattle.std.proofs.lemmas.Result.{err_from_is_err_and}
use Rattle.sec1_der.specs.declared.error.Error.{Error}
use Rattle.sec1_der.proofs.ElementFaultLemmas.{document_element, longer_fault, whole_element}
use Rattle.sec1_der.proofs.document.SecretDocument.from_der.Goals as goal

pub returns-in_err-bytes-clause-exact : goal.returns-in_err-bytes-clause-exact
returns-in_err-bytes-clause-exact c =
    let refusal = err_from_is_err_and c.from_residual-in_err-bytes.result c.from_residual-in_err-bytes.ensures.1 in
    let (header, split) = c.in_ok-rest.ensures.exact in
    let none : length c.in_ok-rest.rest.now ≡ 0 = search rules in
    let is = whole_element _ _ _ _ header split none in
    rw refusal.1
    (inr (is, document_element c.args.bytes.now is, ap (λ (e : Error). e.kind) refusal.2))

pub returns-clause-exact : goal.returns-clause-exact
returns-clause-exact c =
    let (header, split) = c.in_ok-rest.ensures.exact in
    let none : length c.in_ok-rest.rest.now ≡ 0 = search rules in
    let is = whole_element _ _ _ _ header split none in
    (search rules, is, document_element c.args.bytes.now is)

pub returns-clause-long : goal.returns-clause-long
returns-clause-long c whole is more =
    absurd (cc ((returns-clause-exact c).2, longer_fault c.args.bytes.now whole is more))
