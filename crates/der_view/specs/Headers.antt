-- The header of an element in BER, and what is none (X.690 section 8.1).
use Rattle.std.specs.Prelude.{◌==◌, ℕ, zero, suc, ◌+◌, ◌-◌, ◌*◌, ◌/◌, ◌%◌, nat_lt, ◌||◌}
use Rattle.std.specs.Prelude.{if◌then◌else◌, List, [], ◌∷◌, length, take, drop, Option, Some, None}
use Rattle.std.specs.Prelude.{is_none, Result, Ok, Err, ◌&&◌, not, Bool, false}
use Rattle.std.specs.Result.{result_map_both}
use Rattle.sec1_der.specs.Elements.{number_of}
use Rattle.der_view.specs.declared.header.Class.{Class}
use Rattle.der_view.specs.declared.header.Class.TheVariants as classes
use Rattle.der_view.specs.declared.header.Header.{Header}
use Rattle.der_view.specs.declared.header.Tag.{Tag}
use Rattle.der_view.specs.declared.header.ElementFault.{ElementFault}
use Rattle.der_view.specs.declared.header.ElementFault.TheVariants as faults

-- X.690 sections 8.1.2.2 and 8.1.2.5: the class, which bits 8 and 7 say, whether the content is
-- elements, which bit 6 says, and the number
abbrev pub tag_of : ℕ → ℕ → Tag
tag_of first number = record {
  class = if first / 0x40 == 0 then classes.Universal
      else (if first / 0x40 == 1 then classes.Application
      else (if first / 0x40 == 2 then classes.Context else classes.Private));
  constructed = first / 0x20 % 2 == 1;
  number = number;
}

-- X.690 section 8.1.2.4.2: the number in the bytes after the first one, 7 bits in each, up to the
-- one whose bit 8 is zero, and how many these are; `high` is the number in those before. At most so
-- many are read.
abbrev pub number_after : ℕ → ℕ → List ℕ → Result (ℕ × ℕ) ElementFault
number_after zero high bytes = Err faults.TagTooLarge
number_after (suc most) high [] = Err faults.TagCut
number_after (suc most) high (byte ∷ bytes) =
    if nat_lt byte 0x80 then Ok (high * 0x80 + byte, 1)
    else result_map_both (λ found. (found.0, found.1 + 1)) (λ fault. fault)
    (number_after most (high * 0x80 + byte % 0x80) bytes)

-- X.690 section 8.1.2: the tag that bytes begin with, and how many bytes it is of. Its number is
-- in bits 5 to 1 of the first byte; if these are all one, it is in up to four more. 00 and 20 are
-- no tag, since 00 is that of end-of-contents (section 8.1.5).
abbrev pub tag_at : List ℕ → Result (Tag × ℕ) ElementFault
tag_at [] = Err faults.TagCut
tag_at (first ∷ bytes) =
    if first == 0x00 || first == 0x20 then Err (faults.ReservedTag first)
    else (if nat_lt (first % 0x20) 0x1F then Ok (tag_of first (first % 0x20), 1)
    else result_map_both (λ found. (tag_of first found.0, found.1 + 1)) (λ fault. fault)
    (number_after 4 0 bytes))

-- the greatest length of a content in bytes: 2^24 - 1
abbrev pub max_content_len : ℕ
max_content_len = 16777215

-- X.690 section 8.1.3.5: the length in so many bytes
abbrev pub long_length : ℕ → List ℕ → Result (Option ℕ × ℕ) ElementFault
long_length count bytes =
    if nat_lt (length bytes) count then Err faults.LengthCut
    else (if nat_lt max_content_len (number_of (take count bytes)) then Err faults.LengthTooLarge
    else Ok (Some (number_of (take count bytes)), count + 1))

-- X.690 section 8.1.3: the length that bytes begin with, and how many bytes it is of. Below 80 the
-- first byte is the length (8.1.3.4), 80 is the indefinite form (8.1.3.6), and FF is reserved
-- (8.1.3.5). Any other says in how many bytes the length follows, of which four are read here.
abbrev pub length_at : List ℕ → Result (Option ℕ × ℕ) ElementFault
length_at [] = Err faults.LengthCut
length_at (first ∷ bytes) =
    if nat_lt first 0x80 then Ok (Some first, 1)
    else (if first == 0x80 then Ok (None, 1)
    else (if first == 0xFF then Err faults.ReservedLength
    else (if nat_lt 0x84 first then Err (faults.LongLength first)
    else long_length (first - 0x80) bytes)))

-- X.690 section 8.1.3.2: the length of a primitive element isn't indefinite
abbrev pub header_with : Tag → ℕ → Result (Option ℕ × ℕ) ElementFault → Result Header ElementFault
header_with tag tag_len (Err fault) = Err fault
header_with tag tag_len (Ok (content_len, len)) =
    if is_none content_len && not tag.constructed then Err faults.IndefinitePrimitive
    else Ok (record {
      tag = tag;
      tag_len = tag_len;
      len = tag_len + len;
      content_len = content_len;
    })

abbrev pub header_after : List ℕ → Result (Tag × ℕ) ElementFault → Result Header ElementFault
header_after bytes (Err fault) = Err fault
header_after bytes (Ok (tag, tag_len)) =
    header_with tag tag_len (length_at (drop tag_len bytes))

-- the header that bytes begin with, or why they begin with none
abbrev pub header_of : List ℕ → Result Header ElementFault
header_of bytes = header_after bytes (tag_at bytes)

-- X.680 section 8.4: whether a tag is that of the type with this number
abbrev pub is_type_in : Class → ℕ → ℕ → Bool
is_type_in classes.Universal number wanted = number == wanted
is_type_in _ number wanted = false

abbrev pub is_type : Tag → ℕ → Bool
is_type tag number = is_type_in tag.class tag.number number
