-- Containers of private keys (RFC 5958 section 2), and the places of the parts of an EC private
-- key.
use Rattle.std.specs.Prelude.{◌≡◌, ◌⊎◌, ◌-◌, ◌∷◌, [], ℕ, List, length, Option, Some, None}
use Rattle.std.specs.Option.{option_map}
use Rattle.curves.specs.Curves.{curve_content}
use Rattle.curves.specs.declared.curve.Curve.{Curve}
use Rattle.der_types.specs.Contents.{bit_string_content}
use Rattle.der_types.specs.Sequences.{set_of}
use Rattle.pkix.specs.EcKeys.{IsOnCurve}
use Rattle.pkix.specs.Records.{algorithm_content, key_attribute_fault}
use Rattle.pkix.specs.declared.private_key.OneAsymmetricKey.{OneAsymmetricKey}
use Rattle.pkix.specs.declared.private_key.PrivateKeyInfo.{PrivateKeyInfo}
use Rattle.sec1_der.specs.Elements.{element_of}
use Rattle.sec1_der.specs.Parts.{join, optional_of}
use Rattle.sec1_c.specs.Fields.{bytes_len}
use Rattle.sec1_c.specs.Places.{StandsAt, span_before}
use Rattle.sec1_c.specs.declared.container.PrivateKeyInfoParts.{PrivateKeyInfoParts}

-- RFC 5958 section 2: what follows the private key, attributes [0] IMPLICIT Attributes OPTIONAL and
-- publicKey [1] IMPLICIT BIT STRING OPTIONAL. The attributes are in ascending order (X.690 section
-- 11.6).
abbrev pub after_key : OneAsymmetricKey → Option (List ℕ)
after_key container =
    join (optional_of 0xA0 (option_map (set_of 0x30 key_attribute_fault) container.attributes))
    (optional_of 0x81 (option_map bit_string_content container.public_key))

-- RFC 5958 section 2: OneAsymmetricKey ::= SEQUENCE { version INTEGER,
--   privateKeyAlgorithm AlgorithmIdentifier, privateKey OCTET STRING,
--   attributes [0] IMPLICIT Attributes OPTIONAL, publicKey [1] IMPLICIT BIT STRING OPTIONAL }
abbrev pub container_content : ℕ → OneAsymmetricKey → Option (List ℕ)
container_content version container =
    join (element_of 0x02 (Some (version ∷ [])))
    (join
    (join (element_of 0x30 (algorithm_content container.algorithm))
    (element_of 0x04 (Some container.private_key)))
    (after_key container))

-- the container that a PrivateKeyInfo of RFC 5208 section 5 is
abbrev pub of_version_zero : PrivateKeyInfo → OneAsymmetricKey
of_version_zero info = record {
  algorithm = info.algorithm;
  private_key = info.private_key;
  attributes = info.attributes;
  public_key = None;
}

-- RFC 5958 section 2: the container has no public key, and the bytes are those of it in version 0
pub record IsVersionZero (container : OneAsymmetricKey) (bytes : List ℕ) : Type 0 where
  pub no_public_key : container.public_key ≡ None
  pub bytes_are : element_of 0x30 (container_content 0 container) ≡ Some bytes

-- RFC 5958 section 2: the bytes are those of this container, in version 0 or 1
abbrev pub IsContainer : OneAsymmetricKey → List ℕ → Type 0
IsContainer container bytes =
    IsVersionZero container bytes
    ⊎ (element_of 0x30 (container_content 1 container) ≡ Some bytes)

-- the bytes are those of a container of an EC private key on a curve of the table
pub record IsEcContainer (bytes : List ℕ) : Type 0 where
  pub container : OneAsymmetricKey
  pub curve : Curve
  pub is_container : IsContainer container bytes
  pub on_curve : IsOnCurve curve container.algorithm

-- The parts are those of the container. The curve's is the content of its identifier.
pub record AreContainerPartsOf (curve : Curve) (container : OneAsymmetricKey) (input : List ℕ)
    (parts : PrivateKeyInfoParts) : Type 0 where
  pub curve_is : StandsAt input parts.curve (curve_content curve)
  pub key : StandsAt input parts.key container.private_key

-- the index at which the private key ends
abbrev pub key_end : OneAsymmetricKey → List ℕ → ℕ
key_end container input = length input - bytes_len (after_key container)

-- The places of the parts, counted from the end of the input: the curve's content ends where the
-- OCTET STRING of the private key begins.
abbrev pub container_places : Curve → OneAsymmetricKey → List ℕ → PrivateKeyInfoParts
container_places curve container input = record {
  curve =
      span_before
      (key_end container input - bytes_len (element_of 0x04 (Some container.private_key)))
      (Some (length (curve_content curve)));
  key = span_before (key_end container input) (Some (length container.private_key));
}

-- the index at which the algorithm begins, which ends where the OCTET STRING begins
abbrev pub container_algorithm_start : OneAsymmetricKey → List ℕ → ℕ
container_algorithm_start container input =
    key_end container input - bytes_len (element_of 0x04 (Some container.private_key))
    - bytes_len (element_of 0x30 (algorithm_content container.algorithm))
