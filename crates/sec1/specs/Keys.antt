-- RFC 5915 section 3 (SEC1 v2.0 Appendix C.4): an ECPrivateKey and its tree.
use Rattle.std.specs.Prelude.{ℕ, ◌+◌, List, [], ◌∷◌, ◌++◌, Option, Some, None, IfSome}
use Rattle.std.specs.Option.{option_map}
use Rattle.sec1_der.specs.Identifiers.{IsIdentifier, content_of}
use Rattle.sec1_der.specs.Trees.{Tree, leaf, branch, forest, IsTreeOf}

-- The parts of a key: the bytes of the private key and, if present, the arcs of the curve's
-- identifier and the bytes of the public key.
pub record Key : Type 0 where
  pub private_key : List ℕ
  pub parameters : Option (List ℕ)
  pub public_key : Option (List ℕ)

-- X.690 section 8.14: the explicit field [number] around a tree, if present
abbrev pub field : ℕ → Option Tree → List Tree
field number None = []
field number (Some inside) = branch (0xA0 + number) (forest (inside ∷ [])) ∷ []

-- the tree of a key: version 1, the private key, the curve's identifier as the parameters, and the
-- public key as a bit string without unused bits
abbrev pub key_tree : Key → Tree
key_tree key =
    branch 0x30 (forest (leaf 0x02 (1 ∷ []) ∷ leaf 0x04 key.private_key
    ∷ field 0 (option_map (λ arcs. leaf 0x06 (content_of arcs)) key.parameters)
    ++ field 1 (option_map (λ bytes. leaf 0x03 (0 ∷ bytes)) key.public_key)))

-- The bytes are those of a key with these parts. The parameters, if present, are the arcs of an
-- identifier.
pub record IsKeyOf (key : Key) (input : List ℕ) : Type 0 where
  pub curve : IfSome key.parameters (λ arcs. IsIdentifier arcs (content_of arcs))
  pub tree : IsTreeOf (key_tree key) input

-- there are bytes that are such, as those of a key, and this holds of them
pub record Exists (Such P : List ℕ → Type 0) : Type 0 where
  pub bytes : List ℕ
  pub such : Such bytes
  pub holds : P bytes
