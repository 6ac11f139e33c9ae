-- RFC 5280 section 4.1: components of a TBSCertificate in a row, as parts by themselves.
use Rattle.std.specs.Prelude.{◌≡◌, ℕ, List, Option, Some}
use Rattle.std.specs.Option.{option_map}
use Rattle.sec1_der.specs.Elements.{element_of}
use Rattle.sec1_der.specs.Parts.{Tags, Begins, both_tags, join, one_tag, optional_of, optional_tag}
use Rattle.sec1_der.specs.PartLaws.{element_begins, optional_begins, pair_begins}
use Rattle.sec1_der.specs.Faults.{Fault, element_fault, end_fault, optional_fault}
use Rattle.sec1_der.specs.Contents.{bit_string_fault}
use Rattle.der_types.specs.Contents.{BitString, bit_string_content}
use Rattle.der_types.specs.Sequences.{sequence_fault, sequence_of}
use Rattle.pkix.specs.declared.validity.Validity.{Validity}
use Rattle.pkix.specs.Records.{extension_fault, name_content, names_fault}
use Rattle.pkix.specs.Records.{validity_content, validity_fault}

-- issuer Name, validity Validity, subject Name
abbrev pub Names : Type 0
Names = List ℕ × (Validity × List ℕ)

abbrev pub names_bytes : Names → Option (List ℕ)
names_bytes names =
    join (element_of 0x30 (name_content names.0))
    (join (element_of 0x30 (validity_content names.1.0))
    (element_of 0x30 (name_content names.1.1)))

abbrev pub names_and_then : Fault → Fault
names_and_then rest =
    element_fault 0x30 names_fault
    (element_fault 0x30 validity_fault (element_fault 0x30 names_fault rest))

-- they begin with an element of this tag
pub names_begin : (names : Names) (whole : List ℕ) → names_bytes names ≡ Some whole
    → Begins (one_tag 0x30) whole
names_begin names whole same =
    pair_begins (one_tag 0x30) (one_tag 0x30) (element_of 0x30 (name_content names.0))
    (join (element_of 0x30 (validity_content names.1.0))
    (element_of 0x30 (name_content names.1.1)))
    whole same (element_begins 0x30 (name_content names.0))
    (λ back is. pair_begins (one_tag 0x30) (one_tag 0x30)
    (element_of 0x30 (validity_content names.1.0)) (element_of 0x30 (name_content names.1.1)) back
    is (element_begins 0x30 (validity_content names.1.0))
    (element_begins 0x30 (name_content names.1.1)))

-- issuerUniqueID [1] IMPLICIT BIT STRING OPTIONAL, subjectUniqueID [2] IMPLICIT BIT STRING
-- OPTIONAL, extensions [3] EXPLICIT SEQUENCE OF Extension OPTIONAL
abbrev pub Additions : Type 0
Additions = (Option BitString × Option BitString) × Option (List ℕ)

abbrev pub unique_id_bytes : ℕ → Option BitString → Option (List ℕ)
unique_id_bytes tag bits = optional_of tag (option_map bit_string_content bits)

abbrev pub extensions_bytes : Option (List ℕ) → Option (List ℕ)
extensions_bytes extensions =
    optional_of 0xA3
    (option_map (λ bytes. element_of 0x30 (sequence_of 0x30 extension_fault bytes)) extensions)

abbrev pub additions_bytes : Additions → Option (List ℕ)
additions_bytes value =
    join (join (unique_id_bytes 0x81 value.0.0) (unique_id_bytes 0x82 value.0.1))
    (extensions_bytes value.1)

abbrev pub additions_and_then : Fault → Fault
additions_and_then rest =
    optional_fault 0x81 bit_string_fault
    (optional_fault 0x82 bit_string_fault
    (optional_fault 0xA3 (element_fault 0x30 (sequence_fault 0x30 extension_fault) end_fault)
    rest))

abbrev pub unique_id_tags : Tags
unique_id_tags = both_tags (optional_tag 0x81) (optional_tag 0x82)

abbrev pub additions_tags : Tags
additions_tags = both_tags unique_id_tags (optional_tag 0xA3)

-- they are empty, or begin with one of these tags
pub additions_begin : (value : Additions) (whole : List ℕ) → additions_bytes value ≡ Some whole
    → Begins additions_tags whole
additions_begin value whole same =
    pair_begins unique_id_tags (optional_tag 0xA3)
    (join (unique_id_bytes 0x81 value.0.0) (unique_id_bytes 0x82 value.0.1))
    (extensions_bytes value.1) whole same
    (λ front is. pair_begins (optional_tag 0x81) (optional_tag 0x82)
    (unique_id_bytes 0x81 value.0.0) (unique_id_bytes 0x82 value.0.1) front is
    (optional_begins 0x81 (option_map bit_string_content value.0.0))
    (optional_begins 0x82 (option_map bit_string_content value.0.1)))
    (optional_begins 0xA3
    (option_map (λ bytes. element_of 0x30 (sequence_of 0x30 extension_fault bytes)) value.1))
