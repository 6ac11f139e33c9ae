-- The places of a public key's parts.
use Rattle.std.proofs.Common.{◌≡◌, ◌+◌, ◌-◌, ◌≤◌, ◌++◌, ◌∷◌, [], ℕ, List, length, Bool, true, false, if◌then◌else◌}
use Rattle.std.proofs.Common.{Option, Some, None, IsSome, IsSomeAnd, lit≤, refl, arith, length-append, append_assoc}
use Rattle.std.proofs.lemmas.List.{append-nil}
use Rattle.curves.specs.Curves.{curve_arcs, curve_content, field_len}
use Rattle.curves.specs.declared.curve.Curve.{Curve}
use Rattle.curves.specs.declared.curve.Curve.TheVariants as curves
use Rattle.der_types.specs.AnyElements.{any_of, is_element}
use Rattle.der_types.specs.Contents.{BitString, bit_string_content}
use Rattle.der_types.specs.Choices.{optional_bytes}
use Rattle.der_types.specs.Contents.{content_if}
use Rattle.der_types.specs.ObjectIdentifiers.{is_object_identifier}
use Rattle.pkix.specs.EcKeys.{IsOnCurve}
use Rattle.pkix.specs.Records.{algorithm_content, public_key_content}
use Rattle.pkix.specs.declared.algorithm.AlgorithmIdentifier.{AlgorithmIdentifier}
use Rattle.pkix.specs.declared.public_key.SubjectPublicKeyInfo.{SubjectPublicKeyInfo}
use Rattle.sec1_der.specs.Contents.{are_bits}
use Rattle.sec1_der.proofs.ElementLaws.{element_of-some}
use Rattle.sec1_der.specs.Elements.{element, element_of, header, within_limit}
use Rattle.sec1_der.specs.Identifiers.{content_of, identifier_content}
use Rattle.sec1_der.proofs.IdentifierLaws.{is_identifier}
use Rattle.sec1_der.proofs.JoinLaws.{parted}
use Rattle.sec1_c.specs.FieldLengths.{IsFieldLength}
use Rattle.sec1_c.specs.Fields.{bytes_len}
use Rattle.sec1_c.specs.PublicKeys.{ArePublicKeyPartsOf, IsInfo, key_field_len, public_key_places}
use Rattle.sec1_c.proofs.FieldLemmas.{limited}
use Rattle.sec1_c.proofs.PlaceLemmas.{stands_before}

-- what passes a test is what was tested
passed : (test : Bool) (bytes content : List ℕ) → (if test then Some bytes else None) ≡ Some content → bytes ≡ content
passed true bytes content e = cc e
passed false bytes content e = absurd (cc e)

-- the parameters that name a curve are the element of its identifier
named : (curve : Curve) (parameters : Option (List ℕ)) (bytes : List ℕ)
    → IsSomeAnd parameters (λ found. element_of 0x06 (identifier_content (curve_arcs curve)) ≡ Some found)
    → optional_bytes any_of parameters ≡ Some bytes
    → bytes ≡ element 0x06 (curve_content curve)
named curve None bytes names e = absurd names
named curve (Some found) bytes names e =
    let same = passed (is_element found) found bytes e in
    let identifier = element_of-some 0x06 (identifier_content (curve_arcs curve)) found names in
    let arcs = curve_arcs curve in
    let content = passed (is_identifier arcs) (content_of arcs) identifier.inside identifier.same in
    rw (← same, content) identifier.at.encoded

-- An algorithm on a curve ends with the content of the curve's identifier.
pub record EndsWith (content bytes : List ℕ) : Type 0 where
  pub front : List ℕ
  pub split : bytes ≡ front ++ content

pub algorithm_ends : (curve : Curve) (algorithm : AlgorithmIdentifier) (bytes : List ℕ) → IsOnCurve curve algorithm
    → element_of 0x30 (algorithm_content algorithm) ≡ Some bytes
    → EndsWith (curve_content curve) bytes
algorithm_ends curve algorithm bytes on e =
    let whole = element_of-some 0x30 (algorithm_content algorithm) bytes e in
    let parts = parted (element_of 0x06 (content_if is_object_identifier algorithm.algorithm))
    (optional_bytes any_of algorithm.parameters) whole.inside whole.same in
    let parameters = named curve algorithm.parameters parts.back on.1 parts.second_there in
    record {
      front = header 0x30 (length whole.inside) ++ (parts.front ++ header 0x06 (length (curve_content curve)));
      split = grind (arith, append_assoc);
    }

-- A public key is a front, the content of its curve's identifier, and the BIT STRING of the key.
record IsSplit (curve : Curve) (key : BitString) (bytes : List ℕ) : Type 0 where
  front : List ℕ
  split : bytes ≡ front ++ (curve_content curve ++ element 0x03 (key.unused ∷ key.bytes))

split_info : (curve : Curve) (info : SubjectPublicKeyInfo) (bytes : List ℕ) → IsInfo info bytes
    → IsOnCurve curve info.algorithm
    → IsSplit curve info.public_key bytes
split_info curve info bytes is on =
    let key = info.public_key in
    let whole = element_of-some 0x30 (public_key_content info) bytes is in
    let parts = parted (element_of 0x30 (algorithm_content info.algorithm)) (element_of 0x03 (bit_string_content key))
    whole.inside whole.same in
    let algorithm = algorithm_ends curve info.algorithm parts.front on parts.first_there in
    let bits = element_of-some 0x03 (bit_string_content key) parts.back parts.second_there in
    let content = passed (are_bits key.unused key.bytes) (key.unused ∷ key.bytes) bits.inside bits.same in
    let back : parts.back ≡ element 0x03 (key.unused ∷ key.bytes) = rw (← content) at bits.at.encoded in
    record {
      front = header 0x30 (length whole.inside) ++ algorithm.front;
      split = grind (arith, append_assoc);
    }

-- the parts of a public key are at its places
pub are_public_key_parts : (curve : Curve) (info : SubjectPublicKeyInfo) (bytes : List ℕ) → IsInfo info bytes
    → IsOnCurve curve info.algorithm
    → ArePublicKeyPartsOf curve info bytes (public_key_places curve info bytes)
are_public_key_parts curve info bytes is on =
    let key = info.public_key in
    let parts = split_info curve info bytes is on in
    let content = curve_content curve in
    let field = element 0x03 (key.unused ∷ key.bytes) in
    let front = parts.front ++ (content ++ (header 0x03 (length (key.unused ∷ key.bytes)) ++ (key.unused ∷ []))) in
    record {
      curve_is = stands_before bytes parts.front content field (length bytes - key_field_len key.bytes) parts.split
          (grind (arith, length-append));
      public_key = stands_before bytes front key.bytes [] (length bytes) (grind (arith, append_assoc, append-nil))
          (grind arith);
    }

-- a BIT STRING that has an encoding has this length
pub bit_string_len : (key : BitString) (bytes : List ℕ) → element_of 0x03 (bit_string_content key) ≡ Some bytes
    → length bytes ≡ key_field_len key.bytes
bit_string_len key bytes e =
    let bits = element_of-some 0x03 (bit_string_content key) bytes e in
    let content = passed (are_bits key.unused key.bytes) (key.unused ∷ key.bytes) bits.inside bits.same in
    let encoded : bytes ≡ element 0x03 (key.unused ∷ key.bytes) = rw (← content) at bits.at.encoded in
    grind (arith, length-append)

-- The parts have room in the bytes of a public key.
pub record HaveRoom (curve : Curve) (info : SubjectPublicKeyInfo) (bytes : List ℕ) : Type 0 where
  pub field : IsSome (element_of 0x03 (bit_string_content info.public_key))
  pub room : length (curve_content curve) + key_field_len info.public_key.bytes ≤ length bytes
  pub key : length info.public_key.bytes ≤ length bytes

pub places_fit : (curve : Curve) (info : SubjectPublicKeyInfo) (bytes : List ℕ) → IsInfo info bytes
    → IsOnCurve curve info.algorithm
    → HaveRoom curve info bytes
places_fit curve info bytes is on =
    let key = info.public_key in
    let parts = split_info curve info bytes is on in
    let whole = element_of-some 0x30 (public_key_content info) bytes is in
    let joined = parted (element_of 0x30 (algorithm_content info.algorithm)) (element_of 0x03 (bit_string_content key))
    whole.inside whole.same in
    record {
      field = rw joined.second_there refl;
      room = grind (arith, length-append);
      key = grind (arith, length-append);
    }

-- points are read at the field length of each curve
pub field_fits : (curve : Curve) → IsFieldLength (field_len curve)
field_fits curves.Secp112r1 = (lit≤ tt, lit≤ tt)
field_fits curve = (lit≤ tt, lit≤ tt)

-- The two elements have lengths that can be computed, and room in the bytes of a public key.
pub record HaveElements (info : SubjectPublicKeyInfo) (bytes : List ℕ) : Type 0 where
  pub algorithm : IsSome (within_limit (element_of 0x30 (algorithm_content info.algorithm)))
  pub key : IsSome (within_limit (element_of 0x03 (bit_string_content info.public_key)))
  pub room :
      bytes_len (element_of 0x30 (algorithm_content info.algorithm))
      + bytes_len (element_of 0x03 (bit_string_content info.public_key)) ≤ length bytes

-- the lengths of fields that are there
lengths_of : (a b : Option (List ℕ)) (x y : List ℕ) (n : ℕ) → a ≡ Some x → b ≡ Some y → length x + length y ≤ n
    → bytes_len a + bytes_len b ≤ n
lengths_of a b x y n e f fits = rw (e, f) fits

pub elements_fit : (info : SubjectPublicKeyInfo) (bytes : List ℕ) → IsInfo info bytes → HaveElements info bytes
elements_fit info bytes is =
    let algorithm = element_of 0x30 (algorithm_content info.algorithm) in
    let key = element_of 0x03 (bit_string_content info.public_key) in
    let whole = element_of-some 0x30 (public_key_content info) bytes is in
    let parts = parted algorithm key whole.inside whole.same in
    record {
      algorithm = limited algorithm parts.front parts.first_there (grind (arith, length-append, whole.at.bounded));
      key = limited key parts.back parts.second_there (grind (arith, length-append, whole.at.bounded));
      room = lengths_of algorithm key parts.front parts.back (length bytes) parts.first_there parts.second_there
          (grind (arith, length-append));
    }
