-- The errors of this crate.
use Rattle.std.specs.Prelude.{◌≡◌, ◌⊎◌, ◌++◌, codes, List, ℕ}
use Rattle.sec1.specs.Keys.{Key, IsKeyOf, Exists}
use Rattle.sec1.specs.declared.error.Error.{Error}
use Rattle.sec1.specs.declared.error.Error.TheVariants.{Asn1, Crypto, PointEncoding, Version}
use Rattle.sec1.specs.declared.error.Error.TheVariants.{Memory}
use Rattle.sec1_der.specs.Errors.{kind_message}
use Rattle.sec1_der.specs.declared.error.Error.{Error as DerError}
use Rattle.sec1_der.specs.declared.error.ErrorKind.{ErrorKind}
use Rattle.sec1_der.specs.declared.error.ErrorKind.TheVariants.{Overlength, Memory as DerMemory}

-- the error of this crate for an error of DER, by its kind
abbrev error_of_kind : ErrorKind → DerError → Error
error_of_kind DerMemory cause = Memory
error_of_kind _ cause = Asn1 cause

abbrev pub error_of : DerError → Error
error_of cause = error_of_kind cause.kind cause

-- an error of DER whose kind is such
abbrev pub IsAsn1Where : (ErrorKind → Type 0) → Error → Type 0
IsAsn1Where P (Asn1 cause) = P cause.kind
IsAsn1Where P Crypto = ⊥
IsAsn1Where P PointEncoding = ⊥
IsAsn1Where P Version = ⊥
IsAsn1Where P Memory = ⊥

-- an error of DER of this kind
abbrev pub IsAsn1 : ErrorKind → Error → Type 0
IsAsn1 kind = IsAsn1Where (λ of. of ≡ kind)

-- The error is Overlength, and the key has no encoding, as a part of it is beyond the limits; or it
-- is such a one, and this holds of the encoding.
abbrev pub HasNoEncodingOr : (Error → Type 0) → Key → (List ℕ → Type 0) → Error → Type 0
HasNoEncodingOr IsSuch key P e =
    (IsAsn1 Overlength e × ((bytes : List ℕ) → ¬ IsKeyOf key bytes))
    ⊎ (IsSuch e × Exists (IsKeyOf key) P)

-- what `{}` prints of an error
abbrev pub error_message : Error → List ℕ
error_message (Asn1 cause) = codes "SEC1 ASN.1 error: " ++ kind_message cause.kind
error_message Crypto = codes "SEC1 cryptographic error"
error_message PointEncoding = codes "elliptic curve point encoding error"
error_message Version = codes "SEC1 version error"
error_message Memory = codes "out of memory"
