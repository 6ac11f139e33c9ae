-- The contents of an INTEGER.
use Rattle.std.specs.Prelude.{◌==◌, ℕ, ◌+◌, ◌*◌, ◌/◌, ◌%◌, ◌^◌, nat_lt, Bool, true, false, not}
use Rattle.std.specs.Prelude.{◌&&◌, if◌then◌else◌, List, [], ◌∷◌, length, map, slice_index, ◌-◌, ℤ}
use Rattle.std.specs.Prelude.{pos, negsuc, ◌-ℤ◌}
use Rattle.std.specs.Int.Digits.{digits_of}
use Rattle.sec1_der.specs.Elements.{number_of}

-- the number in the bits of the first byte and bit 8 of the second
abbrev pub nine_bits : ℕ → ℕ → ℕ
nine_bits first second = 2 * first + second / 0x80

-- X.690 sections 8.3.1 and 8.3.2: one or more bytes. If there is more than one, the bits of the
-- first byte and bit 8 of the second aren't all ones, and aren't all zero.
abbrev pub is_integer : List ℕ → Bool
is_integer [] = false
is_integer (byte ∷ []) = true
is_integer (first ∷ second ∷ bytes) =
    not (nine_bits first second == 0x1FF) && not (nine_bits first second == 0)

-- X.690 section 8.3.3: the content of an integer that isn't negative, bit 8 of whose first byte is
-- zero.
abbrev pub is_unsigned : List ℕ → Bool
is_unsigned bytes = is_integer bytes && nat_lt (slice_index bytes 0) 0x80

-- digits in base 256 with a zero in front if there are none, or if bit 8 of the first one is set
abbrev pub with_sign : List ℕ → List ℕ
with_sign [] = 0 ∷ []
with_sign (digit ∷ digits) = if nat_lt digit 0x80 then digit ∷ digits else 0 ∷ digit ∷ digits

-- X.690 section 8.3: the content of a number that isn't negative, its digits in base 256.
abbrev pub unsigned_content : ℕ → List ℕ
unsigned_content n = with_sign (digits_of 256 n)

-- X.690 section 8.3.3: the two's complement number. It is the sum of the values of the bits that
-- are set, without bit 8 of the first byte; and reduced by the value of that bit, if it is set.
abbrev pub signed_number : List ℕ → ℤ
signed_number [] = pos 0
signed_number (first ∷ bytes) =
    pos (number_of (first % 0x80 ∷ bytes)) -ℤ pos (first / 0x80 * (0x80 * 256 ^ length bytes))

-- X.690 section 8.3.3: the content of a number. That of -1 - n is that of n with each bit turned
-- over.
abbrev pub signed_content : ℤ → List ℕ
signed_content (pos n) = unsigned_content n
signed_content (negsuc n) = map (λ byte. 0xFF - byte) (unsigned_content n)
