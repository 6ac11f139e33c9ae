use Rattle.std.proofs.Common.{◌≡◌, arith}
use Rattle.sec1_c.proofs.PublicKeyLemmas.{are_public_key_parts, field_fits}
use Rattle.sec1_c.proofs.public_key.sec1_public_key_read.Goals as goal

pub returns-then-status-eq-OK-clause-parts : goal.returns-then-status-eq-OK-clause-parts
returns-then-status-eq-OK-clause-parts c info curve point is key =
    let same : c.in-Ok.info ≡ info = cc (c.in-Ok.ensures.only info is) in
    let found : c.in-Some.curve ≡ curve = cc (c.in-Some.ensures.only curve (rw same key.on_curve)) in
    rw (c.places.ensures, same, found) (are_public_key_parts curve info c.args.bytes.now is key.on_curve)

pub returns-else-status-eq-OK-clause-no_point : goal.returns-else-status-eq-OK-clause-no_point
returns-else-status-eq-OK-clause-no_point c info curve is on lacks =
    let same : c.in-Ok.info ≡ info = cc (c.in-Ok.ensures.only info is) in
    let found : c.in-Some.curve ≡ curve = cc (c.in-Some.ensures.only curve (rw same on)) in
    let fits = field_fits c.in-Some.curve in
    c.status_of-status.ensures.no_point (rw c.field_len.ensures fits)
    (λ is. lacks is.of (grind (arith, is.fits), grind arith, grind (arith, is.encoded)))
