-- X.690: an element is a tag byte, a length and a content. The digits of numbers, the most
-- significant first.
use Rattle.std.specs.Prelude.{ℕ, ◌+◌, ◌/◌, ◌%◌, List, [], ◌∷◌, ◌++◌, map, ◌≡◌, ◌≢◌, ◌≤◌, length}
use Rattle.std.specs.Prelude.{nat_lt, nat_le, Option, Some, None, if◌then◌else◌, Bool, IsTrue, ◌&&◌}
use Rattle.std.specs.Prelude.{not, ◌==◌, bit_and}
use Rattle.std.specs.Int.Digits.{digits_of, number_from_digits}
use Rattle.std.specs.Int.{IsBitSet}

-- The number whose base 256 digits are the bytes; 0 if there are none.
abbrev pub number_of : List ℕ → ℕ
number_of bytes = number_from_digits 256 bytes

-- X.690 section 8.19.2: a number in as few base 128 digits as possible, all but the last with bit
-- 80 (hexadecimal) set, which means that another one follows.
abbrev pub base128 : ℕ → List ℕ
base128 n = map (λ digit. 0x80 + digit) (digits_of 128 (n / 128)) ++ n % 128 ∷ []

-- the greatest length of a content in bytes: 2^28 - 1
abbrev pub max_length : ℕ
max_length = 268435455

-- X.690 section 8.1.2: whether this is a tag byte. It isn't 00, which is reserved for
-- end-of-contents, and its low five bits aren't all ones, which begin a high tag number.
abbrev pub is_tag : ℕ → Bool
is_tag byte = nat_lt byte 256 && not (byte == 0) && not (byte % 32 == 31)

-- X.690 section 8.1.2.5: bit 20 (hexadecimal) of the tag marks a constructed element.
abbrev pub IsConstructed : ℕ → Type 0
IsConstructed tag = IsBitSet tag 5

-- whether it is set
abbrev pub is_constructed : ℕ → Bool
is_constructed tag = not (bit_and tag 0x20 == 0)

-- X.690 sections 8.1.3 and 10.1: the one encoding of a length: the number itself below 128,
-- otherwise the number of its base 256 digits plus 80 (hexadecimal), and the digits.
unfoldable pub length_octets : ℕ → List ℕ
length_octets n =
    let digits = digits_of 256 n in
    if nat_lt n 128 then n ∷ [] else (0x80 + length digits) ∷ digits

-- a tag byte and a length
abbrev pub header : ℕ → ℕ → List ℕ
header tag n = tag ∷ length_octets n

-- a tag byte, and a length that isn't above the limit
pub record IsHeader (tag n : ℕ) : Type 0 where
  pub tag_byte : IsTrue (is_tag tag)
  pub bounded : n ≤ max_length

-- a tag byte, the length of the content, and the content
abbrev pub element : ℕ → List ℕ → List ℕ
element tag content = header tag (length content) ++ content

-- the bytes are those of an element, and no more
pub record IsElement (bytes : List ℕ) : Type 0 where
  pub tag : ℕ
  pub content : List ℕ
  pub is_header : IsHeader tag (length content)
  pub encoded : bytes ≡ element tag content

-- the bytes are the beginning of others, which are more
pub record IsProperPrefix (bytes whole : List ℕ) : Type 0 where
  pub more : List ℕ
  pub some : more ≢ []
  pub split : whole ≡ bytes ++ more

-- the content, if there is one that isn't too long for an element
abbrev pub within_limit : Option (List ℕ) → Option (List ℕ)
within_limit None = None
within_limit (Some content) = if nat_le (length content) max_length then Some content else None

-- the element with this tag and content, if there is a content that isn't too long
abbrev pub element_of : ℕ → Option (List ℕ) → Option (List ℕ)
element_of tag None = None
element_of tag (Some content) =
    if nat_le (length content) max_length then Some (element tag content) else None
