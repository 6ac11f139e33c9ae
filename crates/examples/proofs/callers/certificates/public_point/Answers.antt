use Rattle.std.proofs.Common.{◌≡◌, arith}
use Rattle.std.proofs.lemmas.Result.{IfOk-weaker}
use Rattle.examples.proofs.callers.certificates.public_point.Goals as goal

pub returns-clause-found : goal.returns-clause-found
returns-clause-found c =
    IfOk-weaker c.point.result _ _
    (λ point has. (c.in_ok-certificate.certificate, c.in_ok-certificate.ensures.found, has.0, has.1))
    c.point.ensures.found

pub returns-clause-only : goal.returns-clause-only
returns-clause-only c certificate curve point is on field has =
    let same : c.in_ok-certificate.certificate ≡ certificate = cc (c.in_ok-certificate.ensures.only certificate is) in
    c.point.ensures.only curve point (rw same on) field (grind arith) (rw same has)

pub returns-clause-other_curve : goal.returns-clause-other_curve
returns-clause-other_curve c certificate is others =
    let same : c.in_ok-certificate.certificate ≡ certificate = cc (c.in_ok-certificate.ensures.only certificate is) in
    c.point.ensures.other_curve (rw same others)

pub returns-clause-no_point : goal.returns-clause-no_point
returns-clause-no_point c certificate curve is on field lacks =
    let same : c.in_ok-certificate.certificate ≡ certificate = cc (c.in_ok-certificate.ensures.only certificate is) in
    c.point.ensures.no_point curve (rw same on) field (rw same lacks)
