-- EC public keys with their algorithms (RFC 5480 section 2), and the places of their parts.
use Rattle.std.specs.Prelude.{◌≡◌, ◌-◌, ◌∷◌, ℕ, List, length, Some}
use Rattle.curves.specs.Curves.{curve_content, field_len}
use Rattle.curves.specs.declared.curve.Curve.{Curve}
use Rattle.der_types.specs.Contents.{bit_string_content}
use Rattle.pkix.specs.EcKeys.{HasPoint, IsOnCurve}
use Rattle.pkix.specs.Records.{algorithm_content, public_key_content}
use Rattle.pkix.specs.declared.public_key.SubjectPublicKeyInfo.{SubjectPublicKeyInfo}
use Rattle.sec1.specs.Points.{Point}
use Rattle.sec1_der.specs.Elements.{element, element_of}
use Rattle.sec1_c.specs.Fields.{bytes_len}
use Rattle.sec1_c.specs.Places.{StandsAt, span_before}
use Rattle.sec1_c.specs.declared.public_key.PublicKeyParts.{PublicKeyParts}

-- RFC 5280 section 4.1: the bytes are those of this SubjectPublicKeyInfo
abbrev pub IsInfo : SubjectPublicKeyInfo → List ℕ → Type 0
IsInfo info bytes = element_of 0x30 (public_key_content info) ≡ Some bytes

-- RFC 5480 section 2: the algorithm is id-ecPublicKey with this curve, and the key is the encoding
-- of this point at its field length
pub record IsEcKey (curve : Curve) (point : Point) (info : SubjectPublicKeyInfo) : Type 0 where
  pub on_curve : IsOnCurve curve info.algorithm
  pub has_point : HasPoint (field_len curve) info point

-- the bytes are those of an EC public key on a curve of the table
pub record IsEcKeyInfo (bytes : List ℕ) : Type 0 where
  pub info : SubjectPublicKeyInfo
  pub curve : Curve
  pub point : Point
  pub is_info : IsInfo info bytes
  pub is_key : IsEcKey curve point info

-- The parts are those of the public key. The curve's is the content of its identifier.
pub record ArePublicKeyPartsOf (curve : Curve) (info : SubjectPublicKeyInfo) (input : List ℕ)
    (parts : PublicKeyParts) : Type 0 where
  pub curve_is : StandsAt input parts.curve (curve_content curve)
  pub public_key : StandsAt input parts.public_key info.public_key.bytes

-- the length of the BIT STRING with these bytes and no unused bits
abbrev pub key_field_len : List ℕ → ℕ
key_field_len key = length (element 0x03 (0 ∷ key))

-- The places of the parts, counted from the end of the input: the key ends there, and the curve's
-- content where the key's BIT STRING begins.
abbrev pub public_key_places : Curve → SubjectPublicKeyInfo → List ℕ → PublicKeyParts
public_key_places curve info input = record {
  curve = span_before (length input - key_field_len info.public_key.bytes)
      (Some (length (curve_content curve)));
  public_key = span_before (length input) (Some (length info.public_key.bytes));
}

-- the index at which the BIT STRING of the key begins, counted from the end of the input
abbrev pub key_start : SubjectPublicKeyInfo → List ℕ → ℕ
key_start info input =
    length input - bytes_len (element_of 0x03 (bit_string_content info.public_key))

-- the index at which the algorithm begins, which ends there
abbrev pub algorithm_start : SubjectPublicKeyInfo → List ℕ → ℕ
algorithm_start info input =
    key_start info input - bytes_len (element_of 0x30 (algorithm_content info.algorithm))
