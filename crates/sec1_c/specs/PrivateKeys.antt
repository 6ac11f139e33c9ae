-- EC private keys in either form: by themselves (RFC 5915 section 3), or in a container (RFC 5958
-- section 2).
use Rattle.std.specs.Prelude.{◌==◌, ◌+◌, ◌-◌, ◌∷◌, [], ℕ, List, length, Bool, Some, None}
use Rattle.std.specs.Prelude.{if◌then◌else◌}
use Rattle.curves.specs.Curves.{curve_content}
use Rattle.curves.specs.declared.curve.Curve.{Curve}
use Rattle.std.specs.Prelude.{is_none}
use Rattle.pkix.specs.EcKeys.{IsOnCurve, NamesCurve}
use Rattle.pkix.specs.declared.private_key.OneAsymmetricKey.{OneAsymmetricKey}
use Rattle.sec1.specs.Keys.{Key, IsKeyOf}
use Rattle.sec1_der.specs.Faults.{Fault, element_fault, no_fault}
use Rattle.sec1_der.specs.declared.error.ErrorKind.TheVariants.{Tag, Truncated}
use Rattle.sec1_c.specs.Containers.{IsContainer, container_places, key_end}
use Rattle.sec1_c.specs.KeyPlaces.{key_places}
use Rattle.sec1_c.specs.Places.{IsPart, StandsAt, span_shifted}
use Rattle.sec1_c.specs.declared.container.PrivateKeyInfoParts.{PrivateKeyInfoParts}
use Rattle.sec1_c.specs.declared.key.KeyParts.{KeyParts}

-- any bytes that begin with this tag
abbrev pub tag_fault : ℕ → Fault
tag_fault tag [] = Some (Some Truncated)
tag_fault tag (byte ∷ bytes) = if byte == tag then None else Some (Some Tag)

-- Whether the bytes begin with a SEQUENCE whose content begins with an INTEGER and the tag of a
-- SEQUENCE. That of privateKeyAlgorithm stands there in a container (RFC 5958 section 2), and in a
-- key by itself that of the OCTET STRING privateKey (RFC 5915 section 3).
abbrev pub has_algorithm : List ℕ → Bool
has_algorithm bytes =
    is_none (element_fault 0x30 (element_fault 0x02 no_fault (tag_fault 0x30)) no_fault bytes)

-- the container is one of a private key on this curve, and this is the key in it
pub record IsKeyIn (container : OneAsymmetricKey) (curve : Curve) (key : Key)
    (bytes : List ℕ) : Type 0 where
  pub is_container : IsContainer container bytes
  pub on_curve : IsOnCurve curve container.algorithm
  pub is_key : IsKeyOf key container.private_key

-- the bytes are a container of a private key that names no other curve
pub record IsContained (bytes : List ℕ) : Type 0 where
  pub container : OneAsymmetricKey
  pub curve : Curve
  pub key : Key
  pub is_in : IsKeyIn container curve key bytes
  pub names : NamesCurve curve key

-- The parts are those of the key in the container. The curve's is the content of the identifier in
-- the container's algorithm.
pub record AreContainedPartsOf (curve : Curve) (key : Key) (input : List ℕ)
    (parts : KeyParts) : Type 0 where
  pub private_key : StandsAt input parts.private_key key.private_key
  pub curve_is : StandsAt input parts.curve (curve_content curve)
  pub public_key : IsPart input parts.public_key key.public_key

-- the places of the parts of a key, after the start of the key in its container, and that of the
-- curve in the container's algorithm
abbrev pub places_after : PrivateKeyInfoParts → KeyParts → KeyParts
places_after outer inner = record {
  private_key = span_shifted outer.key.offset inner.private_key;
  curve = outer.curve;
  public_key = span_shifted outer.key.offset inner.public_key;
}

-- the places of the parts in the bytes of the container
abbrev pub contained_places : Curve → OneAsymmetricKey → Key → List ℕ → KeyParts
contained_places curve container key input =
    places_after (container_places curve container input)
    (key_places key container.private_key)

-- the index at which the key in a container begins
abbrev pub inside_start : OneAsymmetricKey → List ℕ → ℕ
inside_start container input = key_end container input - length container.private_key

-- the index at which the content of the curve's identifier begins in the key in a container
abbrev pub inside_curve_start : OneAsymmetricKey → Key → List ℕ → ℕ
inside_curve_start container key input =
    inside_start container input + (key_places key container.private_key).curve.offset
