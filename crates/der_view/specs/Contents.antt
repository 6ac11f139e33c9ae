-- What is shown of a content.
use Rattle.std.specs.Prelude.{ℕ, ◌==◌, ◌&&◌, ◌||◌, not, nat_le, if◌then◌else◌, min, Bool}
use Rattle.std.specs.Prelude.{true, false, List, [], ◌∷◌, length, take, drop, slice_index}
use Rattle.std.specs.Prelude.{Option, Some, None, is_some}
use Rattle.std.specs.Char.{is_ascii_digit}
use Rattle.std.specs.List.{list_all}
use Rattle.der_types.specs.Integers.{is_integer}
use Rattle.der_view.specs.Headers.{is_type}
use Rattle.der_view.specs.declared.grammar.Content.{Content}
use Rattle.der_view.specs.declared.grammar.Content.TheVariants as contents
use Rattle.der_view.specs.declared.header.Header.{Header}
use Rattle.der_view.specs.declared.header.Tag.{Tag}

-- whether a tag is that of the type with this number
unfoldable pub has_type : Tag → ℕ → Bool
has_type tag number = is_type tag number

-- X.680 section 8.4, table 1: an INTEGER or an ENUMERATED
unfoldable pub is_number : Tag → Bool
is_number tag = has_type tag 2 || has_type tag 10

-- strings whose characters begin with a byte of their own: UTF8String, NumericString and so on
unfoldable pub is_string : Tag → Bool
is_string tag =
    has_type tag 12 || has_type tag 18 || has_type tag 19 || has_type tag 20 || has_type tag 21
    || has_type tag 22 || has_type tag 25 || has_type tag 26 || has_type tag 27

-- a byte that is no control character
abbrev pub is_plain : ℕ → Bool
is_plain byte = nat_le 0x20 byte && not (byte == 0x7F)

-- characters of two bytes
abbrev pub is_wide_text : List ℕ → Bool
is_wide_text [] = true
is_wide_text (high ∷ []) = false
is_wide_text (high ∷ low ∷ bytes) =
    not (high == 0x00 && not (is_plain low)) && is_wide_text bytes

-- X.690 section 11.7: so many digits, and a Z after them
abbrev pub is_time : ℕ → List ℕ → Bool
is_time count bytes =
    list_all is_ascii_digit (take count bytes)
    && (length (drop count bytes) == 1 && slice_index (drop count bytes) 0 == 0x5A)

-- whether a content is valid for its tag
unfoldable pub is_valid : Tag → List ℕ → Bool
is_valid tag bytes =
    if has_type tag 28 then false
    else (if is_number tag then is_integer bytes
    else (if is_string tag then list_all is_plain bytes
    else (if has_type tag 30 then is_wide_text bytes
    else (if has_type tag 23 then is_time 12 bytes
    else (if has_type tag 24 then is_time 14 bytes else true)))))

-- A BOOLEAN, an INTEGER, an ENUMERATED or a NULL of at most 8 bytes, or an OBJECT IDENTIFIER of at
-- most 12
unfoldable pub is_small : Tag → List ℕ → Bool
is_small tag bytes =
    if is_number tag then nat_le (length bytes) 8 && is_integer bytes
    else (if has_type tag 1 then length bytes == 1
    else has_type tag 5 && length bytes == 0 || has_type tag 6 && nat_le (length bytes) 12)

-- the form of a point, in an OCTET STRING or after the number of unused bits
abbrev pub point_len : Tag → ℕ
point_len tag = if has_type tag 4 then 1 else 2

-- whether all of a content is there
abbrev pub is_there : Option ℕ → ℕ → Bool
is_there None len = false
is_there (Some announced) len = announced == len

-- a content that isn't elements
abbrev pub is_primitive : Header → Bool
is_primitive header = not header.tag.constructed && is_some header.content_len

-- and all of it is there
abbrev pub is_whole : Header → List ℕ → Bool
is_whole header bytes = is_primitive header && is_there header.content_len (length bytes)

-- whether a content that is no point is shown
unfoldable pub is_shown : Bool → Tag → Content → List ℕ → Bool
is_shown small tag (contents.Shown most) bytes =
    nat_le (length bytes) most && is_valid tag bytes
is_shown small tag (contents.Short most) bytes = is_valid tag bytes
is_shown small tag contents.Version bytes = true
is_shown small tag (contents.Of family) bytes = true
is_shown small tag contents.Free bytes = small && is_small tag bytes
is_shown small tag _ bytes = false

-- how many of the first bytes of a content are shown, all of which is there
unfoldable pub shown_in : Bool → Tag → Content → List ℕ → ℕ
shown_in small tag contents.Point bytes = min (point_len tag) (length bytes)
shown_in small tag content bytes = if is_shown small tag content bytes then length bytes else 0

unfoldable pub shown_len : Bool → Header → Content → List ℕ → ℕ
shown_len small header content bytes =
    if is_whole header bytes then shown_in small header.tag content bytes else 0
