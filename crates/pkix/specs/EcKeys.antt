-- RFC 5480 sections 2.1.1 and 2.2, and RFC 5915 section 3: EC keys on named curves.
use Rattle.std.specs.Prelude.{◌≡◌, ℕ, List, [], ◌∷◌, Some, IsSomeAnd, IfSome}
use Rattle.sec1.specs.Keys.{Key}
use Rattle.sec1.specs.Points.{Point, IsPoint, encoding}
use Rattle.sec1_der.specs.Elements.{element_of}
use Rattle.sec1_der.specs.Identifiers.{identifier_content}
use Rattle.curves.specs.Curves.{curve_arcs}
use Rattle.pkix.specs.declared.algorithm.AlgorithmIdentifier.{AlgorithmIdentifier}
use Rattle.curves.specs.declared.curve.Curve.{Curve}
use Rattle.pkix.specs.declared.public_key.SubjectPublicKeyInfo.{SubjectPublicKeyInfo}

-- RFC 5480 section 2.1.1: the content of id-ecPublicKey
abbrev pub ec_public_key : List ℕ
ec_public_key = 0x2A ∷ 0x86 ∷ 0x48 ∷ 0xCE ∷ 0x3D ∷ 0x02 ∷ 0x01 ∷ []

-- RFC 5480 section 2.1.1: the algorithm is id-ecPublicKey, and its parameters are the identifier of
-- the curve
abbrev pub IsOnCurve : Curve → AlgorithmIdentifier → Type 0
IsOnCurve curve algorithm =
    (algorithm.algorithm ≡ ec_public_key)
    × IsSomeAnd algorithm.parameters (λ bytes.
    element_of 0x06 (identifier_content (curve_arcs curve)) ≡ Some bytes)

-- RFC 5915 section 3: the parameters of the key, if present, name the curve
abbrev pub NamesCurve : Curve → Key → Type 0
NamesCurve curve key = IfSome key.parameters (λ arcs. curve_arcs curve ≡ arcs)

-- RFC 5480 section 2.2: the key has no unused bits, and is the encoding of this point over a field
-- of n bytes
abbrev pub HasPoint : ℕ → SubjectPublicKeyInfo → Point → Type 0
HasPoint n info point =
    IsPoint n point × (info.public_key.unused ≡ 0) × (info.public_key.bytes ≡ encoding n point)
