-- The place of the public key in a certificate.
use Rattle.std.proofs.Common.{◌≡◌, ◌+◌, ◌≤◌, ◌++◌, ℕ, List, length, Some, IsSome, IsSomeAnd, arith, length-append}
use Rattle.std.proofs.Common.{append_assoc}
use Rattle.pkix.specs.Records.{certificate_content, tbs_content}
use Rattle.pkix.specs.declared.certificate.Certificate.{Certificate}
use Rattle.sec1_der.proofs.ElementLaws.{element_of-some}
use Rattle.sec1_der.specs.Elements.{element_of, header, max_length, within_limit}
use Rattle.sec1_der.proofs.JoinLaws.{parted}
use Rattle.sec1_c.specs.Certificates.{IsCertificate, after_info, after_tbs, info_of, info_place}
use Rattle.sec1_c.specs.Fields.{bytes_len}
use Rattle.sec1_c.specs.Places.{StandsAt}
use Rattle.sec1_c.proofs.FieldLemmas.{limited}
use Rattle.sec1_c.proofs.PlaceLemmas.{stands_before}

-- A certificate is a front, the SubjectPublicKeyInfo, and what follows it in the TBSCertificate and after that.
record IsSplit (certificate : Certificate) (bytes : List ℕ) : Type 0 where
  front : List ℕ
  info : List ℕ
  fields : List ℕ
  signature : List ℕ
  info_there : info_of certificate ≡ Some info
  fields_there : after_info certificate ≡ Some fields
  signature_there : after_tbs certificate ≡ Some signature
  split : bytes ≡ front ++ (info ++ (fields ++ signature))
  bounded : length info + (length fields + length signature) ≤ max_length

split_certificate : (certificate : Certificate) (bytes : List ℕ) → IsCertificate certificate bytes
    → IsSplit certificate bytes
split_certificate certificate bytes is =
    let tbs = certificate.tbs_certificate in
    let whole = element_of-some 0x30 (certificate_content certificate) bytes is in
    let outer = parted (element_of 0x30 (tbs_content tbs)) (after_tbs certificate) whole.inside whole.same in
    let inner = element_of-some 0x30 (tbs_content tbs) outer.front outer.first_there in
    let numbers = parted _ _ inner.inside inner.same in
    let names = parted _ _ numbers.back numbers.second_there in
    let key = parted (info_of certificate) (after_info certificate) names.back names.second_there in
    record {
      front =
          header 0x30 (length whole.inside)
          ++ (header 0x30 (length inner.inside) ++ (numbers.front ++ names.front));
      info = key.front;
      fields = key.back;
      signature = outer.back;
      info_there = key.first_there;
      fields_there = key.second_there;
      signature_there = outer.second_there;
      split = grind (arith, append_assoc);
      bounded = grind (arith, length-append, whole.at.bounded);
    }

-- the SubjectPublicKeyInfo is at its place
pub info_stands : (certificate : Certificate) (bytes : List ℕ) → IsCertificate certificate bytes
    → IsSomeAnd (info_of certificate) (λ info. StandsAt bytes (info_place certificate bytes) info)
info_stands certificate bytes is =
    let parts = split_certificate certificate bytes is in
    rw (parts.info_there, parts.fields_there, parts.signature_there)
    (stands_before bytes parts.front parts.info (parts.fields ++ parts.signature) _ parts.split
    (grind (arith, length-append)))

-- The lengths of the fields can be computed, and have room in the bytes of a certificate.
pub record HaveRoom (certificate : Certificate) (bytes : List ℕ) : Type 0 where
  pub info : IsSome (within_limit (info_of certificate))
  pub fields : IsSome (within_limit (after_info certificate))
  pub signature : IsSome (within_limit (after_tbs certificate))
  pub room :
      bytes_len (info_of certificate)
      + (bytes_len (after_info certificate) + bytes_len (after_tbs certificate)) ≤ length bytes

pub fields_fit : (certificate : Certificate) (bytes : List ℕ) → IsCertificate certificate bytes
    → HaveRoom certificate bytes
fields_fit certificate bytes is =
    let parts = split_certificate certificate bytes is in
    record {
      info = limited (info_of certificate) parts.info parts.info_there (omega (arith, parts.bounded));
      fields = limited (after_info certificate) parts.fields parts.fields_there (omega (arith, parts.bounded));
      signature = limited (after_tbs certificate) parts.signature parts.signature_there (omega (arith, parts.bounded));
      room = rw (parts.info_there, parts.fields_there, parts.signature_there) (grind (arith, length-append));
    }
