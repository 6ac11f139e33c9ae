-- The place of the public key in a certificate (RFC 5280 section 4.1).
use Rattle.std.specs.Prelude.{◌≡◌, ◌-◌, ℕ, List, length, Option, Some}
use Rattle.std.specs.Option.{option_map}
use Rattle.der_types.specs.Contents.{bit_string_content}
use Rattle.der_types.specs.Sequences.{sequence_of}
use Rattle.pkix.specs.Records.{algorithm_content, certificate_content, extension_fault}
use Rattle.pkix.specs.Records.{public_key_content}
use Rattle.pkix.specs.declared.certificate.Certificate.{Certificate}
use Rattle.sec1_der.specs.Elements.{element_of}
use Rattle.sec1_der.specs.Parts.{join, optional_of}
use Rattle.sec1_c.specs.Fields.{bytes_len}
use Rattle.sec1_c.specs.Places.{span_before}
use Rattle.sec1_c.specs.declared.span.Span.{Span}

-- RFC 5280 section 4.1: the bytes are those of this Certificate
abbrev pub IsCertificate : Certificate → List ℕ → Type 0
IsCertificate certificate bytes = element_of 0x30 (certificate_content certificate) ≡ Some bytes

-- RFC 5280 section 4.1: the SubjectPublicKeyInfo in the TBSCertificate
abbrev pub info_of : Certificate → Option (List ℕ)
info_of certificate = element_of 0x30 (public_key_content certificate.tbs_certificate.public_key)

-- RFC 5280 section 4.1: what follows it in the TBSCertificate, the unique identifiers and the
-- extensions
abbrev pub after_info : Certificate → Option (List ℕ)
after_info certificate =
    let tbs = certificate.tbs_certificate in
    join
    (join (optional_of 0x81 (option_map bit_string_content tbs.issuer_unique_id))
    (optional_of 0x82 (option_map bit_string_content tbs.subject_unique_id)))
    (optional_of 0xA3
    (option_map (λ bytes. element_of 0x30 (sequence_of 0x30 extension_fault bytes)) tbs.extensions))

-- RFC 5280 section 4.1: what follows the TBSCertificate, the algorithm of the signature and the
-- signature
abbrev pub after_tbs : Certificate → Option (List ℕ)
after_tbs certificate =
    join (element_of 0x30 (algorithm_content certificate.signature_algorithm))
    (element_of 0x03 (bit_string_content certificate.signature))

-- the place of the SubjectPublicKeyInfo, counted from the end of the input by the lengths of the
-- fields
abbrev pub info_place : Certificate → List ℕ → Span
info_place certificate input =
    span_before
    (length input - bytes_len (after_tbs certificate) - bytes_len (after_info certificate))
    (Some (bytes_len (info_of certificate)))
