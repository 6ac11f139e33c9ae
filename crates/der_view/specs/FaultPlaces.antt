-- The place of a refusal: the offset of the first fault from left to right, and its kind. The table
-- of structures is that of the code.
use Rattle.std.specs.Prelude.{◌≡◌, ◌≤◌, ◌==◌, ◌||◌, ◌&&◌, ℕ, zero, suc, ◌+◌, ◌-◌, Bool, true, false}
use Rattle.std.specs.Prelude.{List, [], ◌∷◌, length, Option, Some, None, IfSome, option_map, Result}
use Rattle.std.specs.Prelude.{Ok, Err, if◌then◌else◌, slice_get}
use Rattle.std.specs.Option.{option_and_then, option_or}
use Rattle.std.specs.Result.{result_map_both}
use denote.Enum.Declared.{tag_of}
use Rattle.der_types.specs.Contents.{is_boolean}
use Rattle.der_types.specs.Defaults.{other_fault}
use Rattle.der_types.specs.Integers.{is_integer}
use Rattle.der_types.specs.Sequences.{set_fault}
use Rattle.der_types.specs.Times.{is_generalized_time, is_utc_time}
use Rattle.pkix.specs.Records.{attribute_fault, identifier_fault, key_attribute_fault}
use Rattle.pkix.specs.Records.{unsigned_fault}
use Rattle.pkix.specs.Versions.{is_later_version}
use Rattle.der_view.specs.Containers.{has_version_one}
use Rattle.der_view.specs.contracts.faults.table.Rule.{the_type}
use Rattle.der_view.specs.declared.faults.Position.{Position}
use Rattle.der_view.specs.declared.faults.table.Rule.{Rule}
use Rattle.der_view.specs.declared.faults.table.Rule.TheVariants as rules
use Rattle.der_view.specs.declared.faults.table.TheConstants.{ONE_ASYMMETRIC_KEY, STRUCTURES}
use Rattle.der_view.specs.declared.grammar.Presence.{Presence}
use Rattle.der_view.specs.declared.grammar.Presence.TheVariants.{Needed, Optional, Many}
use Rattle.sec1_der.specs.Contents.{bit_string_fault, byte_fault, value_unless, whole_bits_fault}
use Rattle.sec1_der.specs.Contents as contents
use Rattle.sec1_der.specs.Elements.{is_constructed, is_tag}
use Rattle.sec1_der.specs.Faults.{Fault, content_at, no_fault}
use Rattle.sec1_der.specs.declared.error.ErrorKind.{ErrorKind}
use Rattle.sec1_der.specs.declared.error.ErrorKind.TheVariants as kinds

-- a component: its tag, whether it may be absent, and its content
abbrev pub Component : Type 0
Component = ℕ × Presence × Rule

-- The place at which bytes are refused, or None if they aren't, from the offset of their end.
abbrev pub Place : Type 0
Place = ℕ → List ℕ → Option Position

-- a fault of this kind before as many bytes as are left
abbrev pub before : ℕ → List ℕ → ErrorKind → Position
before end left kind = record { offset = end - length left; kind = kind }

-- at the first byte, by a kind of the whole; for a rule that says its kinds
abbrev pub at_first : Fault → Place
at_first fault end bytes =
    option_map (before end bytes) (option_and_then (λ said. said) (fault bytes))

-- at the first byte, if there is one
abbrev pub at_end : ErrorKind → Place
at_end kind end [] = None
at_end kind end (byte ∷ bytes) = Some (before end (byte ∷ bytes) kind)

-- whether an element may have this tag: `17` stands for both times, and `00` for any tag
abbrev pub fits : ℕ → ℕ → Bool
fits expected tag =
    if expected == 0x00 then is_tag tag
    else (if expected == 0x17 then tag == 0x17 || tag == 0x18
    else is_tag expected && tag == expected)

-- X.690 section 8.1.1: the element that bytes begin with, whose tag is checked before its length:
-- the tag, the content, and the bytes after it
abbrev pub element_at : ℕ → ℕ → List ℕ → Result (ℕ × List ℕ × List ℕ) Position
element_at expected end [] = Err (before end [] kinds.Truncated)
element_at expected end (tag ∷ bytes) =
    if fits expected tag
    then result_map_both (λ x. (tag, x.0, x.1)) (before end bytes) (content_at bytes)
    else Err (before end (tag ∷ bytes) kinds.Tag)

-- in the element, in its content, or in the bytes after it, in this order
abbrev pub parts_place : (ℕ → Place) → Place → ℕ → Result (ℕ × List ℕ × List ℕ) Position
    → Option Position
parts_place content rest end (Err fault) = Some fault
parts_place content rest end (Ok x) =
    option_or (content x.0 (end - length x.2) x.1) (rest end x.2)

-- whether an element with this tag comes, or has to
abbrev pub comes : Presence → ℕ → List ℕ → Bool
comes Needed expected bytes = true
comes _ expected [] = false
comes Optional expected (tag ∷ bytes) = fits expected tag
comes Many expected (tag ∷ bytes) = true

-- the components that may come after one: it and the others again, or the others
abbrev pub after : Presence → List Component → List Component → List Component
after Many again others = again
after _ again others = others

-- in components, or after them; there are at most so many elements and components
abbrev pub row_place : (Rule → ℕ → Place) → ℕ → List Component → Place
row_place content most [] end bytes = at_end kinds.TrailingData end bytes
row_place content zero (component ∷ others) end bytes = None
row_place content (suc most) ((expected, presence, rule) ∷ others) end bytes =
    if comes presence expected bytes
    then parts_place (content rule)
    (row_place content most (after presence ((expected, presence, rule) ∷ others) others)) end
    (element_at expected end bytes)
    else row_place content most others end bytes

-- the components of a structure
abbrev pub structure_of : Rule → Option (List Component)
structure_of rule = option_map (λ row. row.now) (slice_get STRUCTURES (tag_of the_type rule))

-- the components that the content of an element with this tag is
abbrev pub inside_of : Rule → ℕ → List ℕ → Option (List Component)
inside_of rules.Tree tag content = if is_constructed tag then structure_of rules.Tree else None
inside_of rules.Container tag content =
    if has_version_one content then Some ONE_ASYMMETRIC_KEY else structure_of rules.Container
inside_of rule tag content = structure_of rule

-- the fault of a content as a whole, which is tested after its components
abbrev pub own_fault : Rule → ℕ → Fault
own_fault rules.Zero tag = byte_fault 0
own_fault rules.One tag = byte_fault 1
own_fault rules.LaterVersion tag = λ version. value_unless (is_later_version version)
own_fault rules.Integer tag = λ serial. value_unless (is_integer serial)
own_fault rules.Unsigned tag = unsigned_fault
own_fault rules.True tag =
    other_fault (0x00 ∷ []) (λ boolean. value_unless (is_boolean boolean))
own_fault rules.Bits tag = bit_string_fault
own_fault rules.Identifier tag = identifier_fault
own_fault rules.CurveName tag = contents.identifier_fault
own_fault rules.Time tag = λ time.
    if tag == 0x17 then value_unless (is_utc_time time)
    else value_unless (is_generalized_time time)
own_fault rules.RelativeName tag = set_fault 0x30 attribute_fault
own_fault rules.KeyAttributes tag = set_fault 0x30 key_attribute_fault
own_fault _ tag = no_fault

-- in a content as a whole; X.690 section 8.14: in that of a BIT STRING with unused bits
abbrev pub own_place : Rule → ℕ → Place
own_place rules.Point tag end content =
    parts_place (λ _. at_first whole_bits_fault) (at_first no_fault) end
    (element_at 0x03 end content)
own_place rule tag end content = at_first (own_fault rule tag) end content

-- in the components of a content, or else in the whole of it
abbrev pub content_place : (List Component → Place) → Rule → ℕ → Place
content_place row rule tag end content =
    option_or (option_and_then (λ inside. row inside end content) (inside_of rule tag content))
    (own_place rule tag end content)

-- in components that have at most so many levels
abbrev pub level_place : ℕ → List Component → Place
level_place zero row end bytes = at_end kinds.Depth end bytes
level_place (suc levels) row end bytes =
    row_place (content_place (level_place levels)) (length row + length bytes) row end bytes

-- in all bytes, which are one element with this tag, whose content meets the rule
abbrev pub place_of : ℕ → Rule → List ℕ → Option Position
place_of expected rule bytes =
    level_place 64 ((expected, Needed, rule) ∷ []) (length bytes) bytes

-- the place of a refusal, if there is one: it has its kind, and doesn't lie after this offset
pub record IsPlaceOf (refusal : Option (Option ErrorKind)) (end : ℕ) (place : Option Position)
    : Type 0 where
  pub kind : option_map (λ (fault : Position). Some fault.kind) place ≡ refusal
  pub within : IfSome place (λ fault. fault.offset ≤ end)

-- RFC 5915 section 3: an EC private key
abbrev pub key_place : List ℕ → Option Position
key_place = place_of 0x30 rules.EcPrivateKey

-- one tree with at most 64 levels
abbrev pub tree_place : List ℕ → Option Position
tree_place = place_of 0x00 rules.Tree

-- RFC 3279 section 2.2.3: an ECDSA signature
abbrev pub signature_place : List ℕ → Option Position
signature_place = place_of 0x30 rules.Signature

-- RFC 5280 section 4.1: a public key with its algorithm
abbrev pub public_key_place : List ℕ → Option Position
public_key_place = place_of 0x30 rules.PublicKeyInfo

-- RFC 5958 section 2: a private key with its algorithm
abbrev pub container_place : List ℕ → Option Position
container_place = place_of 0x30 rules.Container

-- RFC 5280 section 4.1: a certificate
abbrev pub certificate_place : List ℕ → Option Position
certificate_place = place_of 0x30 rules.Certificate
