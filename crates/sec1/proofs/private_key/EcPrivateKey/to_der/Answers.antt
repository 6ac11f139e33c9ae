use Rattle.sec1.proofs.KeyLemmas.{key_found, key_without_memory, fails_with}
use Rattle.sec1.proofs.private_key.EcPrivateKey.to_der.Goals as goal

pub returns-in_err-to_der : goal.returns-in_err-to_der
returns-in_err-to_der c = record {
  exact = fails_with c.from_residual.result c.in_err-to_der.field-0.0 _ _ c.from_residual.ensures.1
      (key_without_memory c.args.self.now _ _ (rw c.borrow.ensures at c.in_err-to_der.ensures));
}

pub returns : goal.returns
returns c = record { exact = key_found c.args.self.now _ (rw c.borrow.ensures at c.in_ok-to_der.ensures.1) }
