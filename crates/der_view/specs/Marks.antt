-- What is marked below a row.
use Rattle.std.specs.Prelude.{◌==◌, ◌&&◌, ◌||◌, ◌-◌, ◌%◌, ◌^◌, ℕ, nat_le, nat_lt, Bool, false, true}
use Rattle.std.specs.Prelude.{if◌then◌else◌, List, [], ◌∷◌, ◌++◌, length, codes, not, slice_index}
use Rattle.std.specs.Prelude.{slice_index_or, Option, Some, None}
use Rattle.std.specs.Bool.{then_some}
use Rattle.std.specs.Fmt.{decimal}
use Rattle.std.specs.List.{concat}
use denote.Enum.Declared.{tag_of as variant_of}
use Rattle.hex.specs.Hex.{encode_upper}
use Rattle.der_types.specs.ObjectIdentifiers.{is_object_identifier}
use Rattle.der_types.specs.Times.{is_generalized_time, is_utc_time}
use Rattle.der_view.specs.Characters.{are_characters}
use Rattle.der_view.specs.Grammar.{Component}
use Rattle.der_view.specs.Headers.{tag_of}
use Rattle.der_view.specs.Types.{type_name, type_word}
use Rattle.der_view.specs.Words.{name_text}
use Rattle.der_view.specs.contracts.marks.Fault.{the_type}
use Rattle.der_view.specs.declared.grammar.Presence.{Presence}
use Rattle.der_view.specs.declared.grammar.Presence.TheVariants.{Needed}
use Rattle.der_view.specs.declared.header.Class.{Class}
use Rattle.der_view.specs.declared.header.Class.TheVariants as classes
use Rattle.der_view.specs.declared.header.Tag.{Tag}
use Rattle.der_view.specs.declared.marks.Fault.{Fault}
use Rattle.der_view.specs.declared.marks.Fault.TheVariants as faults
use Rattle.der_view.specs.declared.marks.Mark.{Mark}
use Rattle.der_view.specs.declared.marks.Mark.TheVariants as marks
use Rattle.der_view.specs.declared.marks.TheConstants.{FAULTS}

-- ---- which rules aren't kept

-- X.690 sections 8.1.2.2 and 8.1.2.4.2: a number below 31 is in the first byte, and the first byte
-- after that isn't 80
abbrev pub tag_fault : List ℕ → ℕ → Option Mark
tag_fault head number =
    if slice_index head 0 % 0x20 == 0x1F
    then (if slice_index head 1 == 0x80 then Some (marks.Fault faults.PaddedTag)
    else (if nat_lt number 31 then Some (marks.Fault faults.LowTag) else None))
    else None

-- a fault of what isn't as it has to be
abbrev pub fault_unless : Bool → Fault → Option Mark
fault_unless passes fault = then_some (not passes) (marks.Fault fault)

-- X.690 sections 8.1.3.4 and 8.1.3.5: the number of bytes of the shortest form of a length
abbrev pub length_len : ℕ → ℕ
length_len len =
    if nat_lt len 0x80 then 1
    else (if nat_lt len 0x100 then 2 else (if nat_lt len 0x10000 then 3 else 4))

-- X.690 section 10.1: the length is definite and in its shortest form
abbrev pub length_fault : Option ℕ → ℕ → Option Mark
length_fault None len = Some (marks.Fault faults.Indefinite)
length_fault (Some content_len) len =
    fault_unless (nat_le len (length_len content_len)) faults.Length

-- X.680 section 8.4: BIT STRING, OCTET STRING, UTF8String, the other strings of characters, and the
-- times, which are VisibleStrings
abbrev pub is_string : Class → ℕ → Bool
is_string classes.Universal number =
    number == 3 || number == 4 || number == 12 || (nat_le 18 number && nat_le number 28)
    || number == 30
is_string _ number = false

-- X.690 section 10.2: no string is constructed
abbrev pub string_fault : Tag → Option Mark
string_fault tag =
    fault_unless (not (tag.constructed && is_string tag.class tag.number)) faults.ConstructedString

-- X.690 sections 8.2.1 and 11.1: one byte, 00 or FF
abbrev pub boolean_fault : List ℕ → Option Mark
boolean_fault (byte ∷ []) = fault_unless (byte == 0x00 || byte == 0xFF) faults.TrueIsFf
boolean_fault _ = Some (marks.Fault faults.BooleanLength)

-- X.690 sections 8.6.2.2, 8.6.2.3 and 11.2.1: the number of unused bits, and the bytes: at most 7
-- unused bits, none of no byte, and all 0
abbrev pub bits_fault : List ℕ → Option Mark
bits_fault [] = Some (marks.Fault faults.EmptyBitString)
bits_fault (unused ∷ bytes) =
    if nat_lt 7 unused then Some (marks.Fault faults.UnusedAboveSeven)
    else (if length bytes == 0 then fault_unless (unused == 0) faults.UnusedInEmpty
    else fault_unless (slice_index bytes (length bytes - 1) % 2 ^ unused == 0) faults.UnusedNotZero)

-- what is wrong with the content of the type of X.680 with this tag number: X.690 sections 8.2,
-- 8.3.1, 8.6, 8.8.2, 8.19.2, 11.8, 11.7, and for the strings of characters 8.23
abbrev pub content_fault : ℕ → List ℕ → Option Mark
content_fault number content =
    if number == 1 then boolean_fault content
    else (if number == 2 || number == 10
    then fault_unless (not (length content == 0)) faults.EmptyInteger
    else (if number == 3 then bits_fault content
    else (if number == 5 then fault_unless (length content == 0) faults.NullContent
    else (if number == 6 then fault_unless (is_object_identifier content) faults.NoIdentifier
    else (if number == 23 then fault_unless (is_utc_time content) faults.UtcTime
    else (if number == 24
    then fault_unless (is_generalized_time content) faults.GeneralizedTime
    else then_some (not (are_characters number content)) (marks.Characters number)))))))

-- ---- their words

-- a number of bytes
abbrev pub byte_word : ℕ → List ℕ
byte_word count = if count == 1 then codes " byte" else codes " bytes"

abbrev pub bytes_text : ℕ → List ℕ
bytes_text count = concat (decimal count ∷ byte_word count ∷ [])

-- the type with this byte of a tag in the low form (X.690 section 8.1.2), and the byte
abbrev pub tag_words : ℕ → List ℕ
tag_words byte =
    if byte == 0x00 then codes "any element"
    else (if byte == 0x17 then codes "UTCTime (17) or GeneralizedTime (18)"
    else type_name (tag_of byte (byte % 0x20))
    ++ (codes " (" ++ (encode_upper (byte ∷ []) ++ codes ")")))

-- a name and a comma, if there is a name, and the tag
abbrev pub component_text : Component → List ℕ
component_text component =
    let name = name_text component.3 in
    name ++ ((if length name == 0 then [] else codes ", ") ++ tag_words component.0)

abbrev pub is_needed : Presence → Bool
is_needed Needed = true
is_needed _ = false

-- the components that could come, up to the first that has to, or else the end
abbrev pub expected_text : List Component → List ℕ
expected_text [] = codes "the end"
expected_text (component ∷ others) =
    component_text component
    ++ (if is_needed component.1 then [] else codes ", or " ++ expected_text others)

-- the words of a mark of a row in which these components could come
abbrev pub mark_words : Mark → List Component → List ℕ
mark_words (marks.Missing missing announced) expected =
    concat (decimal missing ∷ codes " of " ∷ decimal announced ∷ byte_word announced
    ∷ codes " missing" ∷ [])
mark_words (marks.Fault fault) expected =
    (slice_index_or FAULTS (variant_of the_type fault)
    (record { now = [] }, record { now = [] })).1.now
mark_words (marks.Characters number) expected =
    concat (codes "not the characters of " ∷ type_word number ∷ [])
mark_words marks.Expected expected = codes "expected " ++ expected_text expected
mark_words marks.AfterRoot expected = codes "after the end of the root"
