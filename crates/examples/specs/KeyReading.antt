-- The keys in the public key of a certificate and in a private key container.
use Rattle.std.specs.Prelude.{◌≡◌, ℕ, List, Some, None}
use Rattle.sec1.specs.Keys.{Key}
use Rattle.sec1.specs.Der.{element_of}
use Rattle.pkix.specs.Records.{private_key_content, public_key_content}
use Rattle.pkix.specs.declared.private_key.PrivateKeyInfo.{PrivateKeyInfo}
use Rattle.pkix.specs.declared.public_key.SubjectPublicKeyInfo.{SubjectPublicKeyInfo}

-- RFC 5280 section 4.1: the bytes are the DER encoding of this SubjectPublicKeyInfo
abbrev pub IsPublicKeyOf : SubjectPublicKeyInfo → List ℕ → Type 0
IsPublicKeyOf info bytes = element_of 0x30 (public_key_content info) ≡ Some bytes

-- RFC 5208 section 5: the bytes are the DER encoding of this PrivateKeyInfo
abbrev pub IsPrivateKeyOf : PrivateKeyInfo → List ℕ → Type 0
IsPrivateKeyOf info bytes = element_of 0x30 (private_key_content info) ≡ Some bytes

-- RFC 5915 section 3: a key whose parameters name a curve, without its public key
abbrev pub curve_key : List ℕ → List ℕ → Key
curve_key curve private_key =
    record { private_key = private_key; parameters = Some curve; public_key = None }
