use Rattle.sec1_der.specs.Faults.{end_fault}
use Rattle.sec1_der.proofs.KindLaws.{element_says, end_says}
use Rattle.pkix.specs.Records.{certificate_fault, tbs_fault, algorithm_fault, names_fault, attribute_fault}
use Rattle.pkix.specs.Records.{validity_fault, extension_fault, public_key_fault, private_key_fault}
use Rattle.pkix.specs.Records.{asymmetric_key_fault, key_attribute_fault, signature_fault}
use Rattle.pkix.proofs.KindLaws.{certificate_says, tbs_says, algorithm_says, names_say, attribute_says, validity_says}
use Rattle.pkix.proofs.KindLaws.{extension_says, public_key_says, private_key_says, asymmetric_key_says}
use Rattle.pkix.proofs.KindLaws.{key_attribute_says, signature_says}
use Rattle.pkix.proofs.laws.said_kinds.Goals as goal

pub returns-clause-certificate : goal.returns-clause-certificate
returns-clause-certificate c = element_says 0x30 certificate_fault end_fault certificate_says end_says

pub returns-clause-tbs_certificate : goal.returns-clause-tbs_certificate
returns-clause-tbs_certificate c = element_says 0x30 tbs_fault end_fault tbs_says end_says

pub returns-clause-algorithm : goal.returns-clause-algorithm
returns-clause-algorithm c = element_says 0x30 algorithm_fault end_fault algorithm_says end_says

pub returns-clause-name : goal.returns-clause-name
returns-clause-name c = element_says 0x30 names_fault end_fault names_say end_says

pub returns-clause-name_attribute : goal.returns-clause-name_attribute
returns-clause-name_attribute c = element_says 0x30 attribute_fault end_fault attribute_says end_says

pub returns-clause-validity : goal.returns-clause-validity
returns-clause-validity c = element_says 0x30 validity_fault end_fault validity_says end_says

pub returns-clause-extension : goal.returns-clause-extension
returns-clause-extension c = element_says 0x30 extension_fault end_fault extension_says end_says

pub returns-clause-public_key : goal.returns-clause-public_key
returns-clause-public_key c = element_says 0x30 public_key_fault end_fault public_key_says end_says

pub returns-clause-private_key : goal.returns-clause-private_key
returns-clause-private_key c = element_says 0x30 private_key_fault end_fault private_key_says end_says

pub returns-clause-asymmetric_key : goal.returns-clause-asymmetric_key
returns-clause-asymmetric_key c = element_says 0x30 asymmetric_key_fault end_fault asymmetric_key_says end_says

pub returns-clause-key_attribute : goal.returns-clause-key_attribute
returns-clause-key_attribute c = element_says 0x30 key_attribute_fault end_fault key_attribute_says end_says

pub returns-clause-signature : goal.returns-clause-signature
returns-clause-signature c = element_says 0x30 signature_fault end_fault signature_says end_says
