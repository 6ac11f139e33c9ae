-- Object identifiers: their arcs, the content that encodes them and the way back, and their text.
use Rattle.std.specs.Prelude.{◌≡◌, ℕ, ◌+◌, ◌*◌, ◌^◌, ◌≤◌, Bool, IsTrue, false, ◌&&◌, ◌||◌, nat_lt}
use Rattle.std.specs.Prelude.{nat_le, List, [], ◌∷◌, length, map, Option, Some, None, if◌then◌else◌}
use Rattle.std.specs.Prelude.{◌-◌, ◌%◌, ◌<◌, ⊤, not, ◌==◌}
use Rattle.std.specs.List.{list_all, flat_map, join_with_byte}
use Rattle.std.specs.Fmt.{decimal}
use Rattle.sec1_der.specs.Elements.{base128}

-- X.690 section 8.19.4: two or more arcs. The first is 0, 1 or 2, the second is below 40 under 0
-- and 1; the number that these two share and each further arc are below 2^32.
abbrev pub are_arcs : List ℕ → Bool
are_arcs [] = false
are_arcs (a ∷ []) = false
are_arcs (a ∷ b ∷ further) =
    nat_le a 2 && ((nat_le 2 a || nat_lt b 40)
    && (nat_lt (40 * a + b) (2 ^ 32) && list_all (λ arc. nat_lt arc (2 ^ 32)) further))

-- X.690 sections 8.19.2 and 8.19.4: the base 128 encodings of the number that the first two arcs
-- share and of each further arc, one after the other.
abbrev pub content_of : List ℕ → List ℕ
content_of [] = []
content_of (a ∷ []) = []
content_of (a ∷ b ∷ further) = flat_map base128 ((40 * a + b) ∷ further)

-- the greatest length of the content of an identifier in bytes
abbrev pub max_identifier_length : ℕ
max_identifier_length = 39

-- the bytes are the content of the identifier with these arcs, and not too many
pub record IsIdentifier (arcs content : List ℕ) : Type 0 where
  pub allowed : IsTrue (are_arcs arcs)
  pub encoded : content ≡ content_of arcs
  pub short : length content ≤ max_identifier_length

-- the arcs in decimal digits, joined by full stops
abbrev pub dotted : List ℕ → List ℕ
dotted arcs = join_with_byte 46 (map decimal arcs)

-- the content of an identifier; a list that is no identifier's has none
abbrev pub identifier_content : List ℕ → Option (List ℕ)
identifier_content arcs =
    if are_arcs arcs && nat_le (length (content_of arcs)) max_identifier_length
    then Some (content_of arcs) else None

-- X.690 section 8.19.2: bit 8 of the last byte of a subidentifier is zero, and bit 8 of each byte
-- before it is one; its first byte isn't 80. These bytes begin with a subidentifier, or
-- continue one that began before them.
abbrev pub are_subidentifiers : Bool → List ℕ → Bool
are_subidentifiers begins [] = begins
are_subidentifiers begins (byte ∷ bytes) =
    not (begins && byte == 0x80) && are_subidentifiers (nat_lt byte 0x80) bytes

-- X.690 section 8.19.2: the subidentifiers in these bytes; `high` is the number in the digits of
-- the first one that were read before.
abbrev pub numbers_after : ℕ → List ℕ → List ℕ
numbers_after high [] = []
numbers_after high (b ∷ bs) =
    let n = high * 128 + b % 128 in if nat_lt b 128 then n ∷ numbers_after 0 bs
    else numbers_after n bs

-- X.690 section 8.19.4: the first subidentifier encodes the first two arcs, each further one is an
-- arc.
abbrev pub arcs_of_numbers : List ℕ → List ℕ
arcs_of_numbers [] = []
arcs_of_numbers (s ∷ further) =
    if nat_lt s 40 then 0 ∷ s ∷ further
    else (if nat_lt s 80 then 1 ∷ (s - 40) ∷ further else 2 ∷ (s - 80) ∷ further)

abbrev pub arcs_of : List ℕ → List ℕ
arcs_of content = arcs_of_numbers (numbers_after 0 content)

-- the text of further arcs, a full stop in front of each
abbrev pub further_text : List ℕ → List ℕ
further_text arcs = flat_map (λ arc. 46 ∷ decimal arc) arcs

-- the greatest length of a text in bytes: a byte of the content takes four at most, three digits
-- and a full stop, and the first arc one more
abbrev pub max_text_length : ℕ
max_text_length = 4 * max_identifier_length + 1

-- X.690 section 8.19.2: each subidentifier in these bytes is below 2^32, and so is the number in
-- its digits so far; `high` is that of the digits of the first one that were read before.
abbrev pub SubidentifiersFit : ℕ → List ℕ → Type 0
SubidentifiersFit high [] = ⊤
SubidentifiersFit high (b ∷ bs) =
    let n = high * 128 + b % 128 in (n < 2 ^ 32)
    × SubidentifiersFit (if nat_lt b 128 then 0 else n) bs
