use Rattle.sec1.proofs.KeyLemmas.{key_found_with, key_without_room, fails_with}
use Rattle.sec1.proofs.borrowed_key.BorrowedKey.encode_to_slice.Goals as goal

pub returns-in_err-encode_to_slice : goal.returns-in_err-encode_to_slice
returns-in_err-encode_to_slice c = record {
  exact = fails_with c.from_residual.result c.in_err-encode_to_slice.field-0.0 _ _ c.from_residual.ensures.1 (
    c.in_err-encode_to_slice.ensures.0,
    key_without_room c.args.self.now _ _ c.in_err-encode_to_slice.ensures.1,
  );
}

pub returns : goal.returns
returns c = record {
  exact =
      let written = c.in_ok-encode_to_slice.ensures in
      (written.0, key_found_with c.args.self.now _ written.1);
}
