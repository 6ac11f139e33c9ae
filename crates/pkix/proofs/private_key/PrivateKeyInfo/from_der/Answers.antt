use Rattle.std.proofs.Common.{refl, rules}
use Rattle.pkix.specs.declared.private_key.PrivateKeyInfo.{PrivateKeyInfo}
use Rattle.pkix.proofs.private_key.PrivateKeyInfo.from_der.Goals as goal

-- the error is that of a place with what was read
pub returns-in_err-read_whole : goal.returns-in_err-read_whole
returns-in_err-read_whole c =
    let pairs = c.read_whole.new.parts in
    let place : PrivateKeyInfo = record {
      algorithm = pairs.1.0;
      private_key = pairs.1.1.0;
      attributes = pairs.1.1.1;
    } in
    let refused = c.read_whole.ensures place refl in search rules
