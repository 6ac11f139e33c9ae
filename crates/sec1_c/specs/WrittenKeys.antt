-- Keys on named curves as they are written: a public key with its algorithm (RFC 5480 section 2),
-- and a private key in its container (RFC 5958 section 2).
use Rattle.std.specs.Prelude.{◌≡◌, ℕ, List, None}
use Rattle.curves.specs.declared.curve.Curve.{Curve}
use Rattle.pkix.specs.EcKeys.{IsOnCurve}
use Rattle.pkix.specs.declared.private_key.OneAsymmetricKey.{OneAsymmetricKey}
use Rattle.pkix.specs.declared.public_key.SubjectPublicKeyInfo.{SubjectPublicKeyInfo}
use Rattle.sec1.specs.Keys.{Key, IsKeyOf}
use Rattle.sec1_c.specs.Containers.{IsVersionZero}
use Rattle.sec1_c.specs.PublicKeys.{IsInfo}

-- RFC 5480 section 2: the bytes are those of the SubjectPublicKeyInfo whose algorithm is
-- id-ecPublicKey with this curve, and whose key has these bytes and no unused bits
pub record IsInfoOf (curve : Curve) (key bytes : List ℕ) : Type 0 where
  pub info : SubjectPublicKeyInfo
  pub on_curve : IsOnCurve curve info.algorithm
  pub key_is : info.public_key ≡ record { unused = 0; bytes = key }
  pub is_info : IsInfo info bytes

-- RFC 5958 section 2: the bytes are those of the container of version 0 without attributes whose
-- algorithm is id-ecPublicKey with this curve, and whose private key is the encoding of this key
pub record IsContainerOf (curve : Curve) (key : Key) (bytes : List ℕ) : Type 0 where
  pub container : OneAsymmetricKey
  pub on_curve : IsOnCurve curve container.algorithm
  pub is_key : IsKeyOf key container.private_key
  pub no_attributes : container.attributes ≡ None
  pub is_container : IsVersionZero container bytes
