use Rattle.std.proofs.Common.{refl, rules}
use Rattle.pkix.specs.declared.certificate.Certificate.{Certificate}
use Rattle.pkix.proofs.certificate.Certificate.from_der.Goals as goal

-- the error is that of a place with what was read
pub returns-in_err-read_whole : goal.returns-in_err-read_whole
returns-in_err-read_whole c =
    let pairs = c.read_whole.new.parts in
    let place : Certificate = record {
      tbs_certificate = pairs.0;
      signature_algorithm = pairs.1.0;
      signature = pairs.1.1;
    } in
    let refused = c.read_whole.ensures place refl in search rules
