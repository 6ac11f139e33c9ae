-- The places of a key's parts in its bytes (RFC 5915 section 3).
use Rattle.std.specs.Prelude.{ℕ, ◌-◌, List, ◌∷◌, length, Option, Some}
use Rattle.std.specs.Option.{option_map}
use Rattle.sec1_der.specs.Identifiers.{content_of}
use Rattle.sec1_der.specs.Trees.{leaf, forest, joined}
use Rattle.sec1.specs.Keys.{Key, IsKeyOf, field}
use Rattle.sec1_c.specs.GivenKeys.{IsGiven}
use Rattle.sec1_c.specs.Places.{IsPart, IsWithin, StandsAt, bytes_at, span_before}
use Rattle.sec1_c.specs.declared.key.KeyParts.{KeyParts}

-- the bytes are those of some key
abbrev pub IsKey : List ℕ → Type 0
IsKey input = (key : Key) × IsKeyOf key input

-- The parts are those of the key. The curve's is the content of its identifier.
pub record ArePartsOf (key : Key) (input : List ℕ) (parts : KeyParts) : Type 0 where
  pub private_key : StandsAt input parts.private_key key.private_key
  pub curve : IsPart input parts.curve (option_map content_of key.parameters)
  pub public_key : IsPart input parts.public_key key.public_key

-- the places of the parts are within the input
pub record AreWithin (input : List ℕ) (parts : KeyParts) : Type 0 where
  pub private_key : IsWithin input parts.private_key
  pub curve : IsWithin input parts.curve
  pub public_key : IsWithin input parts.public_key

-- The bytes at the places of the parts are the parts of the key.
abbrev pub GiveAgain : Key → List ℕ → KeyParts → Type 0
GiveAgain key input parts =
    IsGiven key (bytes_at input parts.private_key) (bytes_at input parts.curve)
    (bytes_at input parts.public_key) parts.public_key.present

-- the length of the content of the identifier with these arcs
abbrev pub content_len : List ℕ → ℕ
content_len arcs = length (content_of arcs)

-- the bytes of the field [0], and those of the field [1]
abbrev pub parameters_bytes : Option (List ℕ) → List ℕ
parameters_bytes parameters =
    joined (forest (field 0 (option_map (λ arcs. leaf 0x06 (content_of arcs)) parameters)))

abbrev pub public_key_bytes : Option (List ℕ) → List ℕ
public_key_bytes public_key =
    joined (forest (field 1 (option_map (λ bytes. leaf 0x03 (0 ∷ bytes)) public_key)))

-- the end of the field [0], and that of the private key
abbrev pub parameters_end : Key → List ℕ → ℕ
parameters_end key input = length input - length (public_key_bytes key.public_key)

abbrev pub private_key_end : Key → List ℕ → ℕ
private_key_end key input =
    parameters_end key input - length (parameters_bytes key.parameters)

-- the places of the parts, counted from the end of the input by the lengths of the fields
abbrev pub key_places : Key → List ℕ → KeyParts
key_places key input = record {
  private_key = span_before (private_key_end key input) (Some (length key.private_key));
  curve = span_before (parameters_end key input) (option_map content_len key.parameters);
  public_key = span_before (length input) (option_map (λ bytes. length bytes) key.public_key);
}
