use Rattle.std.proofs.Common.{◌≡◌}
use Rattle.sec1_c.proofs.CertificateLemmas.{info_stands}
use Rattle.sec1_c.proofs.certificate.sec1_certificate_read_public_key.Goals as goal

pub returns-in-Ok-clause-part : goal.returns-in-Ok-clause-part
returns-in-Ok-clause-part c certificate is =
    let same : c.in-Ok.certificate ≡ certificate = cc (c.in-Ok.ensures.only certificate is) in
    rw (c.public_key_place.ensures, same) (info_stands certificate c.args.bytes.now is)
