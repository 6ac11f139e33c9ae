use Rattle.std.proofs.Common.{◌≡◌}
use Rattle.sec1_c.proofs.SignatureLemmas.{numbers_stand}
use Rattle.sec1_c.proofs.signature.sec1_signature_read.Goals as goal

pub returns-in-Ok-clause-parts : goal.returns-in-Ok-clause-parts
returns-in-Ok-clause-parts c value is =
    let same : c.in-Ok.value ≡ value = cc (c.in-Ok.ensures.only value is) in
    rw (c.places.ensures, same) (numbers_stand value c.args.bytes.now is)
