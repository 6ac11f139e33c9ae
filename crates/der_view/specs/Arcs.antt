-- The arcs of identifiers that are below 2^128.
use Rattle.std.specs.Prelude.{ℕ, ◌+◌, ◌*◌, ◌%◌, ◌^◌, nat_lt, if◌then◌else◌, List, [], ◌∷◌, drop}
use Rattle.std.specs.Prelude.{Bool, ◌&&◌, true, Option, Some, None}
use Rattle.sec1_der.specs.Identifiers.{arcs_of, numbers_after}
use Rattle.der_types.specs.ObjectIdentifiers.{is_object_identifier}

-- X.690 section 8.19.2: each subidentifier in these bytes is below 2^128, and so is the number in
-- its digits so far; `high` is that of the digits of the first one that were read before
abbrev pub are_u128 : ℕ → List ℕ → Bool
are_u128 high [] = true
are_u128 high (byte ∷ bytes) =
    let number = high * 128 + byte % 128 in
    nat_lt number (2 ^ 128) && are_u128 (if nat_lt byte 128 then 0 else number) bytes

-- X.690 section 8.19.4: the arcs that are left after so many of the first two, which share a
-- subidentifier
abbrev pub arcs_left : ℕ → List ℕ → List ℕ
arcs_left begun bytes =
    if nat_lt begun 2 then drop begun (arcs_of bytes) else numbers_after 0 bytes

-- X.690 section 8.19: the arcs of the identifier with this content, if each of its subidentifiers
-- is below 2^128
abbrev pub arcs_by : List ℕ → Option (List ℕ)
arcs_by content =
    if is_object_identifier content && are_u128 0 content then Some (arcs_of content) else None
