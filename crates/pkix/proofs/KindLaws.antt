-- The rules of the structures say a kind for all that they refuse. Further crates cite these laws.
use Rattle.std.proofs.Common.{[], ◌∷◌}
use Rattle.sec1_der.specs.Contents.{bit_string_fault, byte_fault, value_unless}
use Rattle.sec1_der.specs.Faults.{Fault, SaysKinds, no_fault, element_fault, end_fault}
use Rattle.sec1_der.proofs.KindLaws.{bits_says, byte_says, element_says, end_says, none_says, optional_says}
use Rattle.sec1_der.proofs.KindLaws.{test_says}
use Rattle.der_types.specs.AnyElements.{all_tags, any_element_fault}
use Rattle.der_types.specs.Contents.{is_boolean}
use Rattle.der_types.specs.Defaults.{other_fault}
use Rattle.der_types.specs.Integers.{is_integer, is_unsigned}
use Rattle.der_types.specs.ObjectIdentifiers.{is_object_identifier}
use Rattle.der_types.specs.Sequences.{sequence_fault}
use Rattle.der_types.specs.Sequences.{set_fault}
use Rattle.der_types.specs.Times.{is_utc_time, is_generalized_time}
use Rattle.der_types.proofs.KindLaws.{any_element_says, choice_says, optional_part_says, other_says, sequence_says}
use Rattle.der_types.proofs.KindLaws.{set_says}
use Rattle.pkix.specs.Records.{identifier_fault, algorithm_fault, public_key_fault, time_fault, validity_fault}
use Rattle.pkix.specs.Records.{attribute_fault, names_fault, extension_fault, tbs_fault, certificate_fault}
use Rattle.pkix.specs.Records.{key_attribute_fault, private_key_fault, asymmetric_key_fault, signature_fault}
use Rattle.pkix.specs.Records.{unsigned_fault}
use Rattle.pkix.specs.Versions.{is_later_version}

identifier_says : SaysKinds identifier_fault
identifier_says = test_says is_object_identifier

pub algorithm_says : SaysKinds algorithm_fault
algorithm_says =
    element_says 0x06 identifier_fault _ identifier_says
    (optional_part_says all_tags any_element_fault end_fault (any_element_says end_fault end_says) end_says)

pub public_key_says : SaysKinds public_key_fault
public_key_says =
    element_says 0x30 algorithm_fault _ algorithm_says
    (element_says 0x03 bit_string_fault end_fault bits_says end_says)

time_says : (rest : Fault) → SaysKinds rest → SaysKinds (time_fault rest)
time_says rest says =
    choice_says (0x17 ∷ []) (element_fault 0x17 (λ utc. value_unless (is_utc_time utc)))
    (element_fault 0x18 (λ general. value_unless (is_generalized_time general))) rest
    (element_says 0x17 (λ utc. value_unless (is_utc_time utc)) rest (test_says is_utc_time) says)
    (element_says 0x18 (λ general. value_unless (is_generalized_time general)) rest
    (test_says is_generalized_time) says)

pub validity_says : SaysKinds validity_fault
validity_says = time_says (time_fault end_fault) (time_says end_fault end_says)

pub attribute_says : SaysKinds attribute_fault
attribute_says = element_says 0x06 identifier_fault _ identifier_says (any_element_says end_fault end_says)

pub names_say : SaysKinds names_fault
names_say = sequence_says 0x31 (set_fault 0x30 attribute_fault) (set_says 0x30 attribute_fault attribute_says)

pub extension_says : SaysKinds extension_fault
extension_says =
    element_says 0x06 identifier_fault _ identifier_says
    (optional_says 0x01 (other_fault (0x00 ∷ []) (λ boolean. value_unless (is_boolean boolean))) _
    (other_says (0x00 ∷ []) (λ boolean. value_unless (is_boolean boolean)) (test_says is_boolean))
    (element_says 0x04 no_fault end_fault none_says end_says))

pub tbs_says : SaysKinds tbs_fault
tbs_says =
    optional_says 0xA0 (element_fault 0x02 (λ version. value_unless (is_later_version version)) end_fault) _
    (element_says 0x02 (λ version. value_unless (is_later_version version)) end_fault
    (test_says is_later_version) end_says)
    (element_says 0x02 (λ serial. value_unless (is_integer serial)) _ (test_says is_integer)
    (element_says 0x30 algorithm_fault _ algorithm_says
    (element_says 0x30 names_fault _ names_say
    (element_says 0x30 validity_fault _ validity_says
    (element_says 0x30 names_fault _ names_say
    (element_says 0x30 public_key_fault _ public_key_says
    (optional_says 0x81 bit_string_fault _ bits_says
    (optional_says 0x82 bit_string_fault _ bits_says
    (optional_says 0xA3 (element_fault 0x30 (sequence_fault 0x30 extension_fault) end_fault) end_fault
    (element_says 0x30 (sequence_fault 0x30 extension_fault) end_fault
    (sequence_says 0x30 extension_fault extension_says) end_says)
    end_says)))))))))

pub certificate_says : SaysKinds certificate_fault
certificate_says =
    element_says 0x30 tbs_fault _ tbs_says
    (element_says 0x30 algorithm_fault _ algorithm_says
    (element_says 0x03 bit_string_fault end_fault bits_says end_says))

pub key_attribute_says : SaysKinds key_attribute_fault
key_attribute_says =
    element_says 0x06 identifier_fault _ identifier_says (element_says 0x31 no_fault end_fault none_says end_says)

pub private_key_says : SaysKinds private_key_fault
private_key_says =
    element_says 0x02 (byte_fault 0) _ (byte_says 0)
    (element_says 0x30 algorithm_fault _ algorithm_says
    (element_says 0x04 no_fault _ none_says
    (optional_says 0xA0 (set_fault 0x30 key_attribute_fault) end_fault
    (set_says 0x30 key_attribute_fault key_attribute_says) end_says)))

pub asymmetric_key_says : SaysKinds asymmetric_key_fault
asymmetric_key_says =
    element_says 0x02 (byte_fault 1) _ (byte_says 1)
    (element_says 0x30 algorithm_fault _ algorithm_says
    (element_says 0x04 no_fault _ none_says
    (optional_says 0xA0 (set_fault 0x30 key_attribute_fault) _
    (set_says 0x30 key_attribute_fault key_attribute_says)
    (optional_says 0x81 bit_string_fault end_fault bits_says end_says))))

pub signature_says : SaysKinds signature_fault
signature_says =
    element_says 0x02 unsigned_fault _ (test_says is_unsigned)
    (element_says 0x02 unsigned_fault end_fault (test_says is_unsigned) end_says)
