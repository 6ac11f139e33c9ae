-- The named elliptic curves over prime fields: their identifiers, their names and the lengths of
-- their fields.
use Rattle.std.specs.Prelude.{◌≡◌, ℕ, ◌+◌, ◌/◌, ◌⊎◌, List, [], ◌∷◌, codes, Option, Some, None}
use Rattle.sec1_der.specs.Identifiers.{content_of}
use Rattle.curves.specs.declared.curve.Curve.{Curve}
use Rattle.curves.specs.declared.curve.Curve.TheVariants as curves

-- The arcs of each curve's identifier, in the order of its dotted text: SEC 2 appendix A.2.1,
-- RFC 5480 section 2.1.1.1, RFC 3279 section 2.3.5 (ANSI X9.62) and RFC 5639 section 4.1.
abbrev pub curve_arcs : Curve → List ℕ
curve_arcs curves.Secp112r1 = 1 ∷ 3 ∷ 132 ∷ 0 ∷ 6 ∷ []
curve_arcs curves.Secp112r2 = 1 ∷ 3 ∷ 132 ∷ 0 ∷ 7 ∷ []
curve_arcs curves.Secp128r1 = 1 ∷ 3 ∷ 132 ∷ 0 ∷ 28 ∷ []
curve_arcs curves.Secp128r2 = 1 ∷ 3 ∷ 132 ∷ 0 ∷ 29 ∷ []
curve_arcs curves.Secp160k1 = 1 ∷ 3 ∷ 132 ∷ 0 ∷ 9 ∷ []
curve_arcs curves.Secp160r1 = 1 ∷ 3 ∷ 132 ∷ 0 ∷ 8 ∷ []
curve_arcs curves.Secp160r2 = 1 ∷ 3 ∷ 132 ∷ 0 ∷ 30 ∷ []
curve_arcs curves.Secp192k1 = 1 ∷ 3 ∷ 132 ∷ 0 ∷ 31 ∷ []
curve_arcs curves.Secp192r1 = 1 ∷ 2 ∷ 840 ∷ 10045 ∷ 3 ∷ 1 ∷ 1 ∷ []
curve_arcs curves.Secp224k1 = 1 ∷ 3 ∷ 132 ∷ 0 ∷ 32 ∷ []
curve_arcs curves.Secp224r1 = 1 ∷ 3 ∷ 132 ∷ 0 ∷ 33 ∷ []
curve_arcs curves.Secp256k1 = 1 ∷ 3 ∷ 132 ∷ 0 ∷ 10 ∷ []
curve_arcs curves.Secp256r1 = 1 ∷ 2 ∷ 840 ∷ 10045 ∷ 3 ∷ 1 ∷ 7 ∷ []
curve_arcs curves.Secp384r1 = 1 ∷ 3 ∷ 132 ∷ 0 ∷ 34 ∷ []
curve_arcs curves.Secp521r1 = 1 ∷ 3 ∷ 132 ∷ 0 ∷ 35 ∷ []
curve_arcs curves.Prime192v2 = 1 ∷ 2 ∷ 840 ∷ 10045 ∷ 3 ∷ 1 ∷ 2 ∷ []
curve_arcs curves.Prime192v3 = 1 ∷ 2 ∷ 840 ∷ 10045 ∷ 3 ∷ 1 ∷ 3 ∷ []
curve_arcs curves.Prime239v1 = 1 ∷ 2 ∷ 840 ∷ 10045 ∷ 3 ∷ 1 ∷ 4 ∷ []
curve_arcs curves.Prime239v2 = 1 ∷ 2 ∷ 840 ∷ 10045 ∷ 3 ∷ 1 ∷ 5 ∷ []
curve_arcs curves.Prime239v3 = 1 ∷ 2 ∷ 840 ∷ 10045 ∷ 3 ∷ 1 ∷ 6 ∷ []
curve_arcs curves.BrainpoolP160r1 = 1 ∷ 3 ∷ 36 ∷ 3 ∷ 3 ∷ 2 ∷ 8 ∷ 1 ∷ 1 ∷ 1 ∷ []
curve_arcs curves.BrainpoolP160t1 = 1 ∷ 3 ∷ 36 ∷ 3 ∷ 3 ∷ 2 ∷ 8 ∷ 1 ∷ 1 ∷ 2 ∷ []
curve_arcs curves.BrainpoolP192r1 = 1 ∷ 3 ∷ 36 ∷ 3 ∷ 3 ∷ 2 ∷ 8 ∷ 1 ∷ 1 ∷ 3 ∷ []
curve_arcs curves.BrainpoolP192t1 = 1 ∷ 3 ∷ 36 ∷ 3 ∷ 3 ∷ 2 ∷ 8 ∷ 1 ∷ 1 ∷ 4 ∷ []
curve_arcs curves.BrainpoolP224r1 = 1 ∷ 3 ∷ 36 ∷ 3 ∷ 3 ∷ 2 ∷ 8 ∷ 1 ∷ 1 ∷ 5 ∷ []
curve_arcs curves.BrainpoolP224t1 = 1 ∷ 3 ∷ 36 ∷ 3 ∷ 3 ∷ 2 ∷ 8 ∷ 1 ∷ 1 ∷ 6 ∷ []
curve_arcs curves.BrainpoolP256r1 = 1 ∷ 3 ∷ 36 ∷ 3 ∷ 3 ∷ 2 ∷ 8 ∷ 1 ∷ 1 ∷ 7 ∷ []
curve_arcs curves.BrainpoolP256t1 = 1 ∷ 3 ∷ 36 ∷ 3 ∷ 3 ∷ 2 ∷ 8 ∷ 1 ∷ 1 ∷ 8 ∷ []
curve_arcs curves.BrainpoolP320r1 = 1 ∷ 3 ∷ 36 ∷ 3 ∷ 3 ∷ 2 ∷ 8 ∷ 1 ∷ 1 ∷ 9 ∷ []
curve_arcs curves.BrainpoolP320t1 = 1 ∷ 3 ∷ 36 ∷ 3 ∷ 3 ∷ 2 ∷ 8 ∷ 1 ∷ 1 ∷ 10 ∷ []
curve_arcs curves.BrainpoolP384r1 = 1 ∷ 3 ∷ 36 ∷ 3 ∷ 3 ∷ 2 ∷ 8 ∷ 1 ∷ 1 ∷ 11 ∷ []
curve_arcs curves.BrainpoolP384t1 = 1 ∷ 3 ∷ 36 ∷ 3 ∷ 3 ∷ 2 ∷ 8 ∷ 1 ∷ 1 ∷ 12 ∷ []
curve_arcs curves.BrainpoolP512r1 = 1 ∷ 3 ∷ 36 ∷ 3 ∷ 3 ∷ 2 ∷ 8 ∷ 1 ∷ 1 ∷ 13 ∷ []
curve_arcs curves.BrainpoolP512t1 = 1 ∷ 3 ∷ 36 ∷ 3 ∷ 3 ∷ 2 ∷ 8 ∷ 1 ∷ 1 ∷ 14 ∷ []

-- X.690 section 8.19: the content of the curve's identifier
abbrev pub curve_content : Curve → List ℕ
curve_content curve = content_of (curve_arcs curve)

-- the curve's name in SEC 2; of a curve that isn't in SEC 2, the name in ANSI X9.62 or RFC 5639
abbrev pub curve_name : Curve → List ℕ
curve_name curves.Secp112r1 = codes "secp112r1"
curve_name curves.Secp112r2 = codes "secp112r2"
curve_name curves.Secp128r1 = codes "secp128r1"
curve_name curves.Secp128r2 = codes "secp128r2"
curve_name curves.Secp160k1 = codes "secp160k1"
curve_name curves.Secp160r1 = codes "secp160r1"
curve_name curves.Secp160r2 = codes "secp160r2"
curve_name curves.Secp192k1 = codes "secp192k1"
curve_name curves.Secp192r1 = codes "secp192r1"
curve_name curves.Secp224k1 = codes "secp224k1"
curve_name curves.Secp224r1 = codes "secp224r1"
curve_name curves.Secp256k1 = codes "secp256k1"
curve_name curves.Secp256r1 = codes "secp256r1"
curve_name curves.Secp384r1 = codes "secp384r1"
curve_name curves.Secp521r1 = codes "secp521r1"
curve_name curves.Prime192v2 = codes "prime192v2"
curve_name curves.Prime192v3 = codes "prime192v3"
curve_name curves.Prime239v1 = codes "prime239v1"
curve_name curves.Prime239v2 = codes "prime239v2"
curve_name curves.Prime239v3 = codes "prime239v3"
curve_name curves.BrainpoolP160r1 = codes "brainpoolP160r1"
curve_name curves.BrainpoolP160t1 = codes "brainpoolP160t1"
curve_name curves.BrainpoolP192r1 = codes "brainpoolP192r1"
curve_name curves.BrainpoolP192t1 = codes "brainpoolP192t1"
curve_name curves.BrainpoolP224r1 = codes "brainpoolP224r1"
curve_name curves.BrainpoolP224t1 = codes "brainpoolP224t1"
curve_name curves.BrainpoolP256r1 = codes "brainpoolP256r1"
curve_name curves.BrainpoolP256t1 = codes "brainpoolP256t1"
curve_name curves.BrainpoolP320r1 = codes "brainpoolP320r1"
curve_name curves.BrainpoolP320t1 = codes "brainpoolP320t1"
curve_name curves.BrainpoolP384r1 = codes "brainpoolP384r1"
curve_name curves.BrainpoolP384t1 = codes "brainpoolP384t1"
curve_name curves.BrainpoolP512r1 = codes "brainpoolP512r1"
curve_name curves.BrainpoolP512t1 = codes "brainpoolP512t1"

-- the curve's name in FIPS 186-4 appendix D.1.2
abbrev pub curve_alias : Curve → Option (List ℕ)
curve_alias curves.Secp192r1 = Some (codes "P-192")
curve_alias curves.Secp224r1 = Some (codes "P-224")
curve_alias curves.Secp256r1 = Some (codes "P-256")
curve_alias curves.Secp384r1 = Some (codes "P-384")
curve_alias curves.Secp521r1 = Some (codes "P-521")
curve_alias curve = None

-- the curve's name in ANSI X9.62 (RFC 3279 section 2.3.5)
abbrev pub x962_name : Curve → Option (List ℕ)
x962_name curves.Secp192r1 = Some (codes "prime192v1")
x962_name curves.Secp256r1 = Some (codes "prime256v1")
x962_name curves.Prime192v2 = Some (codes "prime192v2")
x962_name curves.Prime192v3 = Some (codes "prime192v3")
x962_name curves.Prime239v1 = Some (codes "prime239v1")
x962_name curves.Prime239v2 = Some (codes "prime239v2")
x962_name curves.Prime239v3 = Some (codes "prime239v3")
x962_name curve = None

-- the text is a name of the curve in one of these standards
abbrev pub IsNameOf : List ℕ → Curve → Type 0
IsNameOf text curve =
    (text ≡ curve_name curve) ⊎ (curve_alias curve ≡ Some text) ⊎ (x962_name curve ≡ Some text)

-- the length in bits of the prime of the curve's field
abbrev pub field_bits : Curve → ℕ
field_bits curves.Secp112r1 = 112
field_bits curves.Secp112r2 = 112
field_bits curves.Secp128r1 = 128
field_bits curves.Secp128r2 = 128
field_bits curves.Secp160k1 = 160
field_bits curves.Secp160r1 = 160
field_bits curves.Secp160r2 = 160
field_bits curves.Secp192k1 = 192
field_bits curves.Secp192r1 = 192
field_bits curves.Secp224k1 = 224
field_bits curves.Secp224r1 = 224
field_bits curves.Secp256k1 = 256
field_bits curves.Secp256r1 = 256
field_bits curves.Secp384r1 = 384
field_bits curves.Secp521r1 = 521
field_bits curves.Prime192v2 = 192
field_bits curves.Prime192v3 = 192
field_bits curves.Prime239v1 = 239
field_bits curves.Prime239v2 = 239
field_bits curves.Prime239v3 = 239
field_bits curves.BrainpoolP160r1 = 160
field_bits curves.BrainpoolP160t1 = 160
field_bits curves.BrainpoolP192r1 = 192
field_bits curves.BrainpoolP192t1 = 192
field_bits curves.BrainpoolP224r1 = 224
field_bits curves.BrainpoolP224t1 = 224
field_bits curves.BrainpoolP256r1 = 256
field_bits curves.BrainpoolP256t1 = 256
field_bits curves.BrainpoolP320r1 = 320
field_bits curves.BrainpoolP320t1 = 320
field_bits curves.BrainpoolP384r1 = 384
field_bits curves.BrainpoolP384t1 = 384
field_bits curves.BrainpoolP512r1 = 512
field_bits curves.BrainpoolP512t1 = 512

-- SEC1 v2.0 section 2.3.5: the length in bytes of an element of the curve's field
abbrev pub field_len : Curve → ℕ
field_len curve = (field_bits curve + 7) / 8
