-- The kinds of errors, the fault of a header, and what `{}` and `{:?}` print.
use Rattle.std.specs.Prelude.{◌≡◌, ℕ, ◌-◌, ◌&&◌, nat_lt, nat_le, if◌then◌else◌, List, [], ◌∷◌}
use Rattle.std.specs.Prelude.{length, Result, IsErrAnd, codes, Option, Some}
use Rattle.sec1_der.specs.Elements.{is_tag}
use Rattle.sec1_der.specs.declared.error.Error.{Error}
use Rattle.sec1_der.specs.declared.error.ErrorKind.{ErrorKind}
use Rattle.sec1_der.specs.declared.error.ErrorKind.TheVariants.{Truncated, Tag, Length}
use Rattle.sec1_der.specs.declared.error.ErrorKind.TheVariants.{TrailingData, Value, Overlength}
use Rattle.sec1_der.specs.declared.error.ErrorKind.TheVariants.{Buffer, Failed, Io, Depth, Memory}
use Rattle.std.specs.Fmt.{◌++?◌, debug_list, decimal}

-- the call failed with an error of this kind
abbrev pub Refuses : {T : Type 0} → Result T Error → ErrorKind → Type 0
Refuses result kind = IsErrAnd result (λ e. e.kind ≡ kind)

-- the kinds by which a header is refused, or an element that ends inside its content
abbrev pub IsHeaderFault : ErrorKind → Type 0
IsHeaderFault Truncated = Unit {0}
IsHeaderFault Tag = Unit {0}
IsHeaderFault Length = Unit {0}
IsHeaderFault _ = ⊥

-- the kinds that bytes are refused by
abbrev pub IsReadingFault : ErrorKind → Type 0
IsReadingFault Truncated = Unit {0}
IsReadingFault Tag = Unit {0}
IsReadingFault Length = Unit {0}
IsReadingFault TrailingData = Unit {0}
IsReadingFault Value = Unit {0}
IsReadingFault _ = ⊥

-- The kind, if the bytes don't begin with a length: they end inside one, where the first byte
-- announces one to four digits and there are fewer, or encode none.
abbrev pub length_fault : List ℕ → ErrorKind
length_fault [] = Truncated
length_fault (first ∷ digits) =
    if nat_lt 0x80 first && nat_le first 0x84 && nat_lt (length digits) (first - 0x80)
    then Truncated else Length

-- The kind, if the bytes don't begin with a header. The tag is checked before the length.
abbrev pub header_fault : List ℕ → ErrorKind
header_fault [] = Truncated
header_fault (byte ∷ rest) = if is_tag byte then length_fault rest else Tag

-- the text of a kind, and of an error of this kind
abbrev pub kind_message : ErrorKind → List ℕ
kind_message Truncated = codes "input ends inside an element"
kind_message Tag = codes "unexpected or unsupported tag"
kind_message Length = codes "length not in DER form or above the limit"
kind_message TrailingData = codes "bytes after the value"
kind_message Value = codes "content not valid for its tag"
kind_message Overlength = codes "value longer than 268435455 bytes"
kind_message Buffer = codes "output buffer too small"
kind_message Failed = codes "reader has already refused"
kind_message Io = codes "read or write failed"
kind_message Depth = codes "more than 64 nested elements"
kind_message Memory = codes "out of memory"

-- of bytes
abbrev pub bytes_text : List ℕ → Option (List ℕ)
bytes_text bytes = debug_list (λ byte. Some (decimal byte)) bytes

-- of fields with these names and texts, after what comes before the first
abbrev fields_text : List ℕ → List (List ℕ × Option (List ℕ)) → Option (List ℕ)
fields_text before [] = Some (codes " }")
fields_text before (field ∷ fields) =
    Some before ++? Some field.0 ++? Some (codes ": ") ++? field.1
    ++? fields_text (codes ", ") fields

-- of a struct with this name and these fields, each a name and its text
abbrev pub struct_text : List ℕ → List (List ℕ × Option (List ℕ)) → Option (List ℕ)
struct_text name fields = Some name ++? fields_text (codes " { ") fields

-- of the kind of an error: its name
abbrev pub kind_text : ErrorKind → List ℕ
kind_text Truncated = codes "Truncated"
kind_text Tag = codes "Tag"
kind_text Length = codes "Length"
kind_text TrailingData = codes "TrailingData"
kind_text Value = codes "Value"
kind_text Overlength = codes "Overlength"
kind_text Buffer = codes "Buffer"
kind_text Failed = codes "Failed"
kind_text Io = codes "Io"
kind_text Depth = codes "Depth"
kind_text Memory = codes "Memory"
