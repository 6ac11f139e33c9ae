-- What is shown of the content of a primitive element.
use Rattle.std.specs.Prelude.{◌==◌, ℕ, zero, suc, ◌+◌, ◌-◌, ◌*◌, ◌/◌, ◌%◌, ◌^◌, nat_lt}
use Rattle.std.specs.Prelude.{if◌then◌else◌, List, [], ◌∷◌, ◌++◌, length, ◌&&◌, ◌||◌}
use Rattle.std.specs.Prelude.{codes, slice_index, take, drop, Option, Some, None}
use Rattle.std.specs.Prelude.{option_map, unwrap_or}
use Rattle.std.specs.Fmt.{decimal, signed_decimal}
use Rattle.sec1_der.specs.Identifiers.{dotted}
use Rattle.der_types.specs.Integers.{signed_number}
use Rattle.der_types.specs.Strings.{is_visible}
use Rattle.der_types.specs.Times.{is_generalized_time, is_utc_time}
use Rattle.der_view.specs.Arcs.{arcs_by, arcs_left}
use Rattle.der_view.specs.Characters.{codes_of, escaped_all, string_codes}
use Rattle.der_view.specs.Names.{name_by}
use Rattle.der_view.specs.declared.header.Class.{Class}
use Rattle.der_view.specs.declared.header.Class.TheVariants as classes
use Rattle.der_view.specs.declared.header.Tag.{Tag}
use Rattle.der_view.specs.declared.values.Value.{Value}
use Rattle.der_view.specs.declared.values.Value.TheVariants as values
use Rattle.der_view.specs.declared.values.arcs.Arcs.{Arcs}

-- a number of such things, as bytes or unused bits, after a comma
abbrev pub number_of_text : ℕ → List ℕ → List ℕ
number_of_text count thing =
    codes ", " ++ (decimal count ++ (thing ++ (if count == 1 then [] else codes "s")))

-- X.690 section 8.3.3: the number, if it has one to eight bytes
abbrev pub integer_text : List ℕ → Option (List ℕ)
integer_text [] = None
integer_text (first ∷ bytes) =
    if nat_lt 7 (length bytes) then None else Some (signed_decimal (signed_number (first ∷ bytes)))

-- X.690 section 8.6.2.1: the digit of a bit, from bit 8 of the first byte on
abbrev pub bit_digit : List ℕ → ℕ → ℕ
bit_digit bytes place = 0x30 + slice_index bytes (place / 8) / 2 ^ (7 - place % 8) % 2

-- the digits of the first bits, so many of them
abbrev pub bits_text : List ℕ → ℕ → List ℕ
bits_text bytes zero = []
bits_text bytes (suc count) = bits_text bytes count ++ bit_digit bytes count ∷ []

abbrev pub arcs_view : Arcs → List ℕ
arcs_view arcs = arcs_left arcs.begun arcs.left.now

-- what is shown of a content
pub data ValueView : Type 0 where
  Nothing : ValueView
  Count : ℕ → ValueView
  Bits : ℕ → ℕ → ValueView
  Text : List ℕ → ValueView
  Time : List ℕ → List ℕ → ValueView
  Identifier : Option (List ℕ) → List ℕ → ValueView
  String : List ℕ → ValueView

abbrev pub value_view : Value → ValueView
value_view values.Nothing = Nothing
value_view (values.Count count) = Count count
value_view (values.Bits count unused) = Bits count unused
value_view (values.Text text) = Text text.bytes
value_view (values.Time time end) = Time time end.now
value_view (values.Identifier name arcs) = Identifier (option_map (λ name. name.now) name)
    (arcs_view arcs)
value_view (values.String characters) = String (codes_of characters)

-- X.690 section 8.2: one byte, which is 00 in FALSE alone
abbrev pub boolean_value : List ℕ → Option ValueView
boolean_value (byte ∷ []) = Some (Text (if byte == 0 then codes "FALSE" else codes "TRUE"))
boolean_value _ = None

-- X.690 section 8.6.2: the bits without the unused ones, of one to three bytes, or else the number
-- of bytes and of unused bits
abbrev pub bits_value : List ℕ → Option ValueView
bits_value [] = None
bits_value (unused ∷ bytes) =
    Some (if nat_lt unused 8 && (nat_lt 0 (length bytes) && nat_lt (length bytes) 4)
    then Text (bits_text bytes (8 * length bytes - unused)) else Bits (length bytes) unused)

-- a time to the second, from the first two digits of the year and YYMMDDhhmmss, and what follows
abbrev pub time_value : List ℕ → List ℕ → ValueView
time_value century rest = Time (slice_index century 0 ∷ slice_index century 1
    ∷ slice_index rest 0 ∷ slice_index rest 1 ∷ 0x2D ∷ slice_index rest 2 ∷ slice_index rest 3
    ∷ 0x2D ∷ slice_index rest 4 ∷ slice_index rest 5 ∷ 0x20 ∷ slice_index rest 6
    ∷ slice_index rest 7 ∷ 0x3A ∷ slice_index rest 8 ∷ slice_index rest 9 ∷ 0x3A
    ∷ slice_index rest 10 ∷ slice_index rest 11 ∷ []) (drop 12 rest)

-- what is shown of the content of the type of X.680 with this tag number, if it is more than the
-- number of bytes; of a UTCTime the years 50 to 99 are in the twentieth century (RFC 5280 section
-- 4.1.2.5.1)
abbrev pub universal_value : ℕ → List ℕ → Option ValueView
universal_value number content =
    if number == 1 then boolean_value content
    else (if number == 2 || number == 10 then option_map Text (integer_text content)
    else (if number == 3 then bits_value content
    else (if number == 5 && length content == 0 then Some Nothing
    else (if number == 6 then option_map (Identifier (name_by content)) (arcs_by content)
    else (if number == 23 && is_utc_time content
    then Some (time_value
    (if nat_lt (slice_index content 0) 0x35 then codes "20" else codes "19") content)
    else (if number == 24 && is_generalized_time content
    then Some (time_value (take 2 content) (drop 2 content))
    else option_map String (string_codes number content)))))))

-- the same of a field of another type: its characters, if it has some, and all of them print
abbrev pub class_value : Class → ℕ → List ℕ → Option ValueView
class_value classes.Universal number content = universal_value number content
class_value _ number content =
    if nat_lt 0 (length content) && is_visible content then Some (String content) else None

-- what is shown of the content of a primitive element with this tag
abbrev pub value_by : Tag → List ℕ → ValueView
value_by tag content =
    unwrap_or (class_value tag.class tag.number content) (Count (length content))

-- what is shown of a content, after the name of its type
abbrev pub value_text : ValueView → List ℕ
value_text Nothing = []
value_text (Count count) = number_of_text count (codes " byte")
value_text (Bits count unused) =
    number_of_text count (codes " byte")
    ++ (if unused == 0 then [] else number_of_text unused (codes " unused bit"))
value_text (Text text) = codes " " ++ text
value_text (Time time end) = codes " " ++ (time ++ end)
value_text (Identifier None arcs) = codes " " ++ dotted arcs
value_text (Identifier (Some name) arcs) =
    codes " " ++ (name ++ (codes " (" ++ (dotted arcs ++ codes ")")))
value_text (String characters) = codes " \"" ++ (escaped_all characters ++ codes "\"")
