use Rattle.std.proofs.Common.{refl, rules}
use Rattle.pkix.specs.declared.public_key.SubjectPublicKeyInfo.{SubjectPublicKeyInfo}
use Rattle.pkix.proofs.public_key.SubjectPublicKeyInfo.from_der.Goals as goal

-- the error is that of a place with what was read
pub returns-in_err-read_whole : goal.returns-in_err-read_whole
returns-in_err-read_whole c =
    let pairs = c.read_whole.new.parts in
    let place : SubjectPublicKeyInfo = record {
      algorithm = pairs.0;
      public_key = pairs.1;
    } in
    let refused = c.read_whole.ensures place refl in search rules
