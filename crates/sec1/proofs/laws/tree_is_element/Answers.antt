use Rattle.sec1.proofs.KeyLemmas.{key_found, key_written, key_lacks, key_none}
use Rattle.sec1.proofs.laws.tree_is_element.Goals as goal

pub returns : goal.returns
returns c key = (λ bytes. (key_written key bytes, key_found key bytes), (key_lacks key, key_none key))
