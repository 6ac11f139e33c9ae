use Rattle.sec1_c.proofs.AlgorithmLemmas.{point_short}
use Rattle.sec1_c.proofs.public_key.write.sec1_public_key_write.Goals as goal

pub write_info-requires-clause-few : goal.write_info-requires-clause-few
write_info-requires-clause-few c =
    let is = c.status_of-status.ensures.found c.if-status-ne-OK.false in
    point_short _ c.args.public_key.now is.0 is.1
