use Rattle.sec1_c.proofs.AlgorithmLemmas.{info_written}
use Rattle.sec1_c.proofs.public_key.write.write_info.Goals as goal

pub returns : goal.returns
returns c =
    info_written c.args.curve (record { algorithm = c.ec_algorithm.result; public_key = c.whole_bits.result })
    c.args.public_key.now _ _ _ _ _ c.ec_algorithm.ensures c.whole_bits.ensures c.requires.few c.write_value.ensures
