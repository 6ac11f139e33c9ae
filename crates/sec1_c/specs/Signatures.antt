-- Signatures of ECDSA (RFC 3279 section 2.2.3), and the places of their numbers.
use Rattle.std.specs.Prelude.{◌≡◌, ◌-◌, ℕ, List, length, Some}
use Rattle.der_types.specs.Integers.{unsigned_content}
use Rattle.pkix.specs.Records.{signature_content}
use Rattle.pkix.specs.declared.signature.EcdsaSigValue.{EcdsaSigValue}
use Rattle.sec1_der.specs.Elements.{element_of}
use Rattle.sec1_der.specs.Elements.{number_of}
use Rattle.sec1_c.specs.Fields.{bytes_len}
use Rattle.sec1_c.specs.Places.{StandsAt, span_before}
use Rattle.sec1_c.specs.declared.signature.SignatureParts.{SignatureParts}

-- the bytes are those of this signature
abbrev pub IsSignature : EcdsaSigValue → List ℕ → Type 0
IsSignature value bytes = element_of 0x30 (signature_content value) ≡ Some bytes

-- the signature whose numbers have these digits in base 256, the most significant first
abbrev pub signature_given : List ℕ → List ℕ → EcdsaSigValue
signature_given r s = record { r = number_of r; s = number_of s }

-- the parts are the contents of the two numbers
pub record AreSignaturePartsOf (value : EcdsaSigValue) (input : List ℕ)
    (parts : SignatureParts) : Type 0 where
  pub r : StandsAt input parts.r (unsigned_content value.r)
  pub s : StandsAt input parts.s (unsigned_content value.s)

-- The places of the numbers, counted from the end of the input: s ends there, and r where the
-- INTEGER s begins.
abbrev pub signature_places : EcdsaSigValue → List ℕ → SignatureParts
signature_places value input = record {
  r = span_before (length input - bytes_len (element_of 0x02 (Some (unsigned_content value.s))))
      (Some (length (unsigned_content value.r)));
  s = span_before (length input) (Some (length (unsigned_content value.s)));
}
