-- The kind of a refusal as a function of the bytes: the first fault from left to right.
use Rattle.std.specs.Prelude.{◌≡◌, ◌≢◌, ◌==◌, ℕ, zero, suc, ◌+◌, ◌-◌, ◌&&◌, nat_lt, nat_le}
use Rattle.std.specs.Prelude.{if◌then◌else◌, List, [], ◌∷◌, length, take, drop, Option, Some, None}
use Rattle.std.specs.Prelude.{Result, Ok, Err, MatchResult, IsSomeAnd, IfSome}
use Rattle.std.specs.Option.{option_or}
use Rattle.std.specs.Str.{bytes_eq}
use Rattle.sec1_der.specs.Elements.{max_length, is_tag, is_constructed, length_octets, number_of}
use Rattle.sec1_der.specs.Errors.{length_fault}
use Rattle.sec1_der.specs.Trees.{max_tree_depth}
use Rattle.sec1_der.specs.declared.error.Error.{Error}
use Rattle.sec1_der.specs.declared.error.ErrorKind.{ErrorKind}
use Rattle.sec1_der.specs.declared.error.ErrorKind.TheVariants.{Truncated, Tag, TrailingData, Depth}

-- None if the bytes aren't refused; Some (Some kind) if they are refused by this kind; Some None if
-- they are refused, and the kind is left open.
abbrev pub Fault : Type 0
Fault = List ℕ → Option (Option ErrorKind)

-- there is a fault, and it is this kind, if it says one
abbrev pub IsFaultOf : Option (Option ErrorKind) → ErrorKind → Type 0
IsFaultOf fault kind = IsSomeAnd fault (λ said. IfSome said (λ named. kind ≡ named))

-- the call succeeds if there is no fault; otherwise it fails by its kind
abbrev pub HasFault : {T : Type 0} → Result T Error → Option (Option ErrorKind) → Type 0
HasFault result fault = MatchResult result (λ _. fault ≡ None) (λ e. IsFaultOf fault e.kind)

-- the rule says a kind for all bytes that it refuses
pub record SaysKinds (fault : Fault) : Type 0 where
  pub kind : (bytes : List ℕ) → fault bytes ≢ Some None

-- refuses no bytes; and the end, which refuses any further byte as TrailingData
abbrev pub no_fault : Fault
no_fault bytes = None

abbrev pub end_fault : Fault
end_fault [] = None
end_fault (byte ∷ bytes) = Some (Some TrailingData)

-- X.690 sections 8.1.3 and 10.1: the length at the beginning of the bytes, if there is one
abbrev pub number_at : List ℕ → ℕ
number_at [] = 0
number_at (first ∷ digits) =
    if nat_lt first 128 then first else number_of (take (first - 0x80) digits)

-- the length at the beginning of the bytes, and the bytes after it
abbrev pub length_at : List ℕ → Result (ℕ × List ℕ) ErrorKind
length_at bytes =
    let n = number_at bytes in
    let encoded = length_octets n in
    if nat_le n max_length && bytes_eq (take (length encoded) bytes) encoded
    then Ok (n, drop (length encoded) bytes) else Err (length_fault bytes)

-- X.690 section 8.1.4: as many bytes as the length says, and the bytes after them
abbrev pub split_content : Result (ℕ × List ℕ) ErrorKind → Result (List ℕ × List ℕ) ErrorKind
split_content (Err kind) = Err kind
split_content (Ok x) =
    if nat_le x.0 (length x.1) then Ok (take x.0 x.1, drop x.0 x.1) else Err Truncated

-- X.690 section 8.1.1: the content that these bytes begin with, after its length, and the bytes
-- after it
abbrev pub content_at : List ℕ → Result (List ℕ × List ℕ) ErrorKind
content_at bytes = split_content (length_at bytes)

-- the fault of the length, of the content, or of the bytes after it, in this order
abbrev pub parts_fault : Fault → Fault → Result (List ℕ × List ℕ) ErrorKind
    → Option (Option ErrorKind)
parts_fault content rest (Err kind) = Some (Some kind)
parts_fault content rest (Ok x) = option_or (content x.0) (rest x.1)

-- X.690 section 8.1.1: an element with this tag, and what follows it. The tag is checked before the
-- length.
abbrev pub element_fault : ℕ → Fault → Fault → Fault
element_fault tag content rest [] = Some (Some Truncated)
element_fault tag content rest (byte ∷ bytes) =
    if byte == tag then parts_fault content rest (content_at bytes)
    else Some (Some Tag)

-- an element with this tag, if its tag is next; and what follows it
abbrev pub optional_fault : ℕ → Fault → Fault → Fault
optional_fault tag content rest [] = rest []
optional_fault tag content rest (byte ∷ bytes) =
    if byte == tag then element_fault tag content rest (byte ∷ bytes) else rest (byte ∷ bytes)

-- an element of any tag, which decides how its content is checked, and what follows it
abbrev pub any_fault : (ℕ → Fault) → Fault → Fault
any_fault content rest [] = Some (Some Truncated)
any_fault content rest (tag ∷ bytes) =
    if is_tag tag then parts_fault (content tag) rest (content_at bytes)
    else Some (Some Tag)

-- one element of any tag, with any bytes as its content
abbrev pub document_fault : Fault
document_fault = any_fault (λ _. no_fault) end_fault

-- X.690 section 8.1.2.5: the content of a constructed element is elements again
abbrev pub nested_fault : Fault → ℕ → Fault
nested_fault inside tag content = if is_constructed tag then inside content else None

-- A sequence of elements at this level. There are no more of them, and they are nested no deeper,
-- than there are bytes.
abbrev pub forest_fault : ℕ → ℕ → Fault
forest_fault zero level bytes = None
forest_fault (suc most) level [] = None
forest_fault (suc most) level (byte ∷ bytes) =
    if nat_lt max_tree_depth level then Some (Some Depth)
    else any_fault (nested_fault (forest_fault most (level + 1))) (forest_fault most level)
    (byte ∷ bytes)

-- one tree that isn't too deep
abbrev pub tree_fault : Fault
tree_fault bytes = any_fault (nested_fault (forest_fault (length bytes) 2)) end_fault bytes
