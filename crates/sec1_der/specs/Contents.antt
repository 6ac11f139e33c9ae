-- The contents of the primitive types.
use Rattle.std.specs.Prelude.{◌==◌, ℕ, ◌^◌, ◌%◌, nat_le, Bool, ◌&&◌, if◌then◌else◌, List, [], ◌∷◌}
use Rattle.std.specs.Prelude.{length, slice_index, Option, Some, None}
use Rattle.std.specs.Str.{bytes_eq}
use Rattle.sec1_der.specs.Identifiers.{arcs_of, are_arcs, content_of, max_identifier_length}
use Rattle.std.specs.Option.{option_or}
use Rattle.sec1_der.specs.Faults.{Fault, no_fault, end_fault, element_fault}
use Rattle.sec1_der.specs.declared.error.ErrorKind.{ErrorKind}
use Rattle.sec1_der.specs.declared.error.ErrorKind.TheVariants.{Value}

-- Value if the test fails
abbrev pub value_unless : Bool → Option (Option ErrorKind)
value_unless passes = if passes then None else Some (Some Value)

-- Any content other than this one byte is refused.
abbrev pub byte_fault : ℕ → Fault
byte_fault n content = value_unless (bytes_eq content (n ∷ []))

-- X.690 sections 8.6 and 11.2.1: a number of unused bits. It is 0 if there are no bytes, otherwise
-- at most 7, and the unused bits, the lowest of the last byte, are zero.
abbrev pub are_bits : ℕ → List ℕ → Bool
are_bits unused [] = unused == 0
are_bits unused (byte ∷ bytes) =
    nat_le unused 7 && slice_index (byte ∷ bytes) (length bytes) % 2 ^ unused == 0

-- X.690 section 8.6.2: Value unless this is the content of a bit string, the number of unused bits
-- and the bytes
abbrev pub bit_string_fault : Fault
bit_string_fault [] = Some (Some Value)
bit_string_fault (unused ∷ bytes) = value_unless (are_bits unused bytes)

-- Value unless this is the content of a bit string without unused bits
abbrev pub whole_bits_fault : Fault
whole_bits_fault [] = Some (Some Value)
whole_bits_fault (unused ∷ bytes) = value_unless (unused == 0)

-- X.690 section 8.14: the content of an explicit field around a bit string without unused bits: a
-- bit string, and nothing after it; then that no bits are unused
abbrev pub whole_bits_field_fault : Fault
whole_bits_field_fault bytes = option_or (element_fault 0x03 bit_string_fault end_fault bytes)
    (element_fault 0x03 whole_bits_fault no_fault bytes)

-- X.690 section 8.19: Any content other than that of an identifier is refused.
abbrev pub identifier_fault : Fault
identifier_fault content =
    let arcs = arcs_of content in
    value_unless ((are_arcs arcs && nat_le (length (content_of arcs)) max_identifier_length)
    && bytes_eq (content_of arcs) content)
