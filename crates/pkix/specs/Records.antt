-- The structures of certificates and containers: the content of each SEQUENCE, and the kind by
-- which bytes are refused as one.
use Rattle.std.specs.Prelude.{◌∷◌, [], ℕ, List, Option, Some}
use Rattle.std.specs.Option.{option_map}
use Rattle.sec1_der.specs.Elements.{element_of}
use Rattle.sec1_der.specs.Parts.{join, optional_of}
use Rattle.sec1_der.specs.Faults.{Fault, no_fault, element_fault, end_fault}
use Rattle.sec1_der.specs.Faults.{optional_fault}
use Rattle.der_types.specs.AnyElements.{all_tags, any_of, any_element_fault}
use Rattle.der_types.specs.Contents.{bit_string_content}
use Rattle.der_types.specs.Choices.{choice_of, choice_fault, optional_bytes, optional_part_fault}
use Rattle.der_types.specs.Contents.{boolean_content, is_boolean}
use Rattle.der_types.specs.Defaults.{defaulted_of, other_fault}
use Rattle.der_types.specs.Integers.{is_integer, is_unsigned, unsigned_content}
use Rattle.der_types.specs.Contents.{content_if}
use Rattle.der_types.specs.ObjectIdentifiers.{is_object_identifier}
use Rattle.der_types.specs.Sequences.{sequence_fault, sequence_of}
use Rattle.der_types.specs.Sequences.{set_fault, set_of}
use Rattle.der_types.specs.Times.{is_utc_time, is_generalized_time}
use Rattle.sec1_der.specs.Contents.{bit_string_fault, byte_fault, value_unless}
use Rattle.der_types.specs.declared.choice.Choice.{Choice}
use Rattle.pkix.specs.declared.algorithm.AlgorithmIdentifier.{AlgorithmIdentifier}
use Rattle.pkix.specs.Versions.{is_later_version, later_version_content}
use Rattle.pkix.specs.declared.certificate.Certificate.{Certificate}
use Rattle.pkix.specs.declared.certificate.TbsCertificate.{TbsCertificate}
use Rattle.pkix.specs.declared.extension.Extension.{Extension}
use Rattle.pkix.specs.declared.name.AttributeTypeAndValue.{AttributeTypeAndValue}
use Rattle.pkix.specs.declared.private_key.OneAsymmetricKey.{OneAsymmetricKey}
use Rattle.pkix.specs.declared.private_key.PrivateKeyInfo.{PrivateKeyInfo}
use Rattle.pkix.specs.declared.public_key.SubjectPublicKeyInfo.{SubjectPublicKeyInfo}
use Rattle.pkix.specs.declared.signature.EcdsaSigValue.{EcdsaSigValue}
use Rattle.pkix.specs.declared.validity.Validity.{Validity}

-- RFC 5280 section 4.1.1.2: AlgorithmIdentifier ::= SEQUENCE {
--   algorithm OBJECT IDENTIFIER, parameters ANY DEFINED BY algorithm OPTIONAL }
abbrev pub algorithm_content : AlgorithmIdentifier → Option (List ℕ)
algorithm_content value =
    join (element_of 0x06 (content_if is_object_identifier value.algorithm))
    (optional_bytes any_of value.parameters)

abbrev pub identifier_fault : Fault
identifier_fault content = value_unless (is_object_identifier content)

abbrev pub algorithm_fault : Fault
algorithm_fault =
    element_fault 0x06 identifier_fault (optional_part_fault all_tags any_element_fault end_fault)

-- RFC 5280 section 4.1: SubjectPublicKeyInfo ::= SEQUENCE {
--   algorithm AlgorithmIdentifier, subjectPublicKey BIT STRING }
abbrev pub public_key_content : SubjectPublicKeyInfo → Option (List ℕ)
public_key_content value =
    join (element_of 0x30 (algorithm_content value.algorithm))
    (element_of 0x03 (bit_string_content value.public_key))

abbrev pub public_key_fault : Fault
public_key_fault =
    element_fault 0x30 algorithm_fault (element_fault 0x03 bit_string_fault end_fault)

-- RFC 5280 section 4.1: Time ::= CHOICE { utcTime UTCTime, generalTime GeneralizedTime }
abbrev pub time_of : Choice (List ℕ) (List ℕ) → Option (List ℕ)
time_of = choice_of (λ utc. element_of 0x17 (content_if is_utc_time utc))
    (λ general. element_of 0x18 (content_if is_generalized_time general))

abbrev pub time_fault : Fault → Fault
time_fault = choice_fault (0x17 ∷ []) (element_fault 0x17 (λ utc. value_unless (is_utc_time utc)))
    (element_fault 0x18 (λ general. value_unless (is_generalized_time general)))

-- RFC 5280 section 4.1: Validity ::= SEQUENCE { notBefore Time, notAfter Time }
abbrev pub validity_content : Validity → Option (List ℕ)
validity_content value = join (time_of value.not_before) (time_of value.not_after)

abbrev pub validity_fault : Fault
validity_fault = time_fault (time_fault end_fault)

-- RFC 5280 section 4.1.2.4: AttributeTypeAndValue ::= SEQUENCE { type OBJECT IDENTIFIER, value ANY
-- DEFINED BY type }
abbrev pub attribute_content : AttributeTypeAndValue → Option (List ℕ)
attribute_content value =
    join (element_of 0x06 (content_if is_object_identifier value.kind)) (any_of value.value)

abbrev pub attribute_fault : Fault
attribute_fault = element_fault 0x06 identifier_fault (any_element_fault end_fault)

-- RFC 5280 section 4.1.2.4: Name ::= SEQUENCE OF SET OF AttributeTypeAndValue
abbrev pub names_fault : Fault
names_fault = sequence_fault 0x31 (set_fault 0x30 attribute_fault)

abbrev pub name_content : List ℕ → Option (List ℕ)
name_content = sequence_of 0x31 (set_fault 0x30 attribute_fault)

-- RFC 5280 section 4.1: Extension ::= SEQUENCE {
--   extnID OBJECT IDENTIFIER, critical BOOLEAN DEFAULT FALSE, extnValue OCTET STRING }
abbrev pub extension_content : Extension → Option (List ℕ)
extension_content value =
    join (element_of 0x06 (content_if is_object_identifier value.identifier))
    (join (defaulted_of 0x01 (0x00 ∷ []) (Some (boolean_content value.critical)))
    (element_of 0x04 (Some value.value)))

abbrev pub extension_fault : Fault
extension_fault =
    element_fault 0x06 identifier_fault
    (optional_fault 0x01 (other_fault (0x00 ∷ []) (λ boolean. value_unless (is_boolean boolean)))
    (element_fault 0x04 no_fault end_fault))

-- RFC 5280 section 4.1: TBSCertificate ::= SEQUENCE {
--   version [0] EXPLICIT Version DEFAULT v1, serialNumber INTEGER, signature AlgorithmIdentifier,
--   issuer Name, validity Validity, subject Name, subjectPublicKeyInfo SubjectPublicKeyInfo,
--   issuerUniqueID [1] IMPLICIT BIT STRING OPTIONAL, subjectUniqueID [2] IMPLICIT BIT STRING
-- OPTIONAL,
--   extensions [3] EXPLICIT SEQUENCE OF Extension OPTIONAL }
abbrev pub tbs_content : TbsCertificate → Option (List ℕ)
tbs_content value =
    join
    (join
    (optional_of 0xA0
    (option_map (λ version. element_of 0x02 (Some (later_version_content version)))
    value.version))
    (join (element_of 0x02 (content_if is_integer value.serial_number))
    (element_of 0x30 (algorithm_content value.signature))))
    (join
    (join (element_of 0x30 (name_content value.issuer))
    (join (element_of 0x30 (validity_content value.validity))
    (element_of 0x30 (name_content value.subject))))
    (join (element_of 0x30 (public_key_content value.public_key))
    (join
    (join (optional_of 0x81 (option_map bit_string_content value.issuer_unique_id))
    (optional_of 0x82 (option_map bit_string_content value.subject_unique_id)))
    (optional_of 0xA3
    (option_map (λ bytes. element_of 0x30 (sequence_of 0x30 extension_fault bytes))
    value.extensions)))))

abbrev pub tbs_fault : Fault
tbs_fault =
    optional_fault 0xA0
    (element_fault 0x02 (λ version. value_unless (is_later_version version)) end_fault)
    (element_fault 0x02 (λ serial. value_unless (is_integer serial))
    (element_fault 0x30 algorithm_fault
    (element_fault 0x30 names_fault
    (element_fault 0x30 validity_fault
    (element_fault 0x30 names_fault
    (element_fault 0x30 public_key_fault
    (optional_fault 0x81 bit_string_fault
    (optional_fault 0x82 bit_string_fault
    (optional_fault 0xA3 (element_fault 0x30 (sequence_fault 0x30 extension_fault) end_fault)
    end_fault)))))))))

-- RFC 5280 section 4.1: Certificate ::= SEQUENCE {
--   tbsCertificate TBSCertificate, signatureAlgorithm AlgorithmIdentifier, signature BIT STRING }
abbrev pub certificate_content : Certificate → Option (List ℕ)
certificate_content value =
    join (element_of 0x30 (tbs_content value.tbs_certificate))
    (join (element_of 0x30 (algorithm_content value.signature_algorithm))
    (element_of 0x03 (bit_string_content value.signature)))

abbrev pub certificate_fault : Fault
certificate_fault =
    element_fault 0x30 tbs_fault
    (element_fault 0x30 algorithm_fault (element_fault 0x03 bit_string_fault end_fault))

-- RFC 5958 section 2: Attribute ::= SEQUENCE { attrType OBJECT IDENTIFIER, attrValues SET OF
-- AttributeValue }. The values aren't examined.
abbrev pub key_attribute_fault : Fault
key_attribute_fault =
    element_fault 0x06 identifier_fault (element_fault 0x31 no_fault end_fault)

-- RFC 5208 section 5: PrivateKeyInfo ::= SEQUENCE {
--   version INTEGER { v1(0) }, privateKeyAlgorithm AlgorithmIdentifier, privateKey OCTET STRING,
--   attributes [0] IMPLICIT SET OF Attribute OPTIONAL }
abbrev pub private_key_content : PrivateKeyInfo → Option (List ℕ)
private_key_content value =
    join (element_of 0x02 (Some (0 ∷ [])))
    (join (element_of 0x30 (algorithm_content value.algorithm))
    (join (element_of 0x04 (Some value.private_key))
    (optional_of 0xA0 (option_map (set_of 0x30 key_attribute_fault) value.attributes))))

abbrev pub private_key_fault : Fault
private_key_fault =
    element_fault 0x02 (byte_fault 0)
    (element_fault 0x30 algorithm_fault
    (element_fault 0x04 no_fault
    (optional_fault 0xA0 (set_fault 0x30 key_attribute_fault) end_fault)))

-- RFC 5958 section 2: OneAsymmetricKey ::= SEQUENCE {
--   version INTEGER { v2(1) }, privateKeyAlgorithm AlgorithmIdentifier, privateKey OCTET STRING,
--   attributes [0] IMPLICIT SET OF Attribute OPTIONAL, publicKey [1] IMPLICIT BIT STRING OPTIONAL }
abbrev pub asymmetric_key_content : OneAsymmetricKey → Option (List ℕ)
asymmetric_key_content value =
    join (element_of 0x02 (Some (1 ∷ [])))
    (join
    (join (element_of 0x30 (algorithm_content value.algorithm))
    (element_of 0x04 (Some value.private_key)))
    (join (optional_of 0xA0 (option_map (set_of 0x30 key_attribute_fault) value.attributes))
    (optional_of 0x81 (option_map bit_string_content value.public_key))))

abbrev pub asymmetric_key_fault : Fault
asymmetric_key_fault =
    element_fault 0x02 (byte_fault 1)
    (element_fault 0x30 algorithm_fault
    (element_fault 0x04 no_fault
    (optional_fault 0xA0 (set_fault 0x30 key_attribute_fault)
    (optional_fault 0x81 bit_string_fault end_fault))))

-- RFC 3279 section 2.2.3: Ecdsa-Sig-Value ::= SEQUENCE { r INTEGER, s INTEGER }
abbrev pub signature_content : EcdsaSigValue → Option (List ℕ)
signature_content value =
    join (element_of 0x02 (Some (unsigned_content value.r)))
    (element_of 0x02 (Some (unsigned_content value.s)))

abbrev pub unsigned_fault : Fault
unsigned_fault number = value_unless (is_unsigned number)

abbrev pub signature_fault : Fault
signature_fault = element_fault 0x02 unsigned_fault (element_fault 0x02 unsigned_fault end_fault)
