use Rattle.sec1_der.specs.Elements.{element_of}
use Rattle.pkix.specs.Records.{tbs_content}
use Rattle.pkix.proofs.LengthLemmas.{measured, there}
use Rattle.pkix.proofs.certificate.TbsCertificateEncodePart.known_part_len.Goals as goal

pub known_encoded_len-requires : goal.known_encoded_len-requires
known_encoded_len-requires c = there (element_of 0x30 (tbs_content c.args.self.now)) c.requires

pub returns : goal.returns
returns c =
    measured c.known_encoded_len.result (element_of 0x30 (tbs_content c.args.self.now)) c.requires
    c.known_encoded_len.ensures.2
