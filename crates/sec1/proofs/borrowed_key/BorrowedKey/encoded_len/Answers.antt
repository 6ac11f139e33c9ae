use Rattle.sec1.proofs.KeyLemmas.{key_found_with}
use Rattle.sec1.proofs.borrowed_key.BorrowedKey.encoded_len.Goals as goal

pub returns : goal.returns
returns c = record { exact = key_found_with c.args.self.now _ c.in_ok-encoded_len.ensures.2 }
