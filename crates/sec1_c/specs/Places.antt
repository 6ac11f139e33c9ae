-- The place of a part in the bytes that it was read from.
use Rattle.std.specs.Prelude.{◌≡◌, ◌==◌, ℕ, ◌+◌, ◌-◌, ◌≤◌, List, length, take, drop, Option, Some}
use Rattle.std.specs.Prelude.{None, if◌then◌else◌}
use Rattle.sec1_c.specs.declared.span.Span.{Span}

-- the bytes at the place of a part
abbrev pub bytes_at : List ℕ → Span → List ℕ
bytes_at input span = take span.len (drop span.offset input)

-- the place is within the input
abbrev pub IsWithin : List ℕ → Span → Type 0
IsWithin input span = span.offset + span.len ≤ length input

-- the part is present, and these are its bytes
pub record StandsAt (input : List ℕ) (span : Span) (bytes : List ℕ) : Type 0 where
  pub present : span.present ≡ 1
  pub within : IsWithin input span
  pub bytes_are : bytes_at input span ≡ bytes

-- the part is absent
pub record IsMissing (span : Span) : Type 0 where
  pub present : span.present ≡ 0
  pub offset : span.offset ≡ 0
  pub len : span.len ≡ 0

-- the part is the place of these bytes, or no place if there are none
abbrev pub IsPart : List ℕ → Span → Option (List ℕ) → Type 0
IsPart input span None = IsMissing span
IsPart input span (Some bytes) = StandsAt input span bytes

-- the part of this length that ends at this index, or none
abbrev pub span_before : ℕ → Option ℕ → Span
span_before end None = record { offset = 0; len = 0; present = 0 }
span_before end (Some len) = record { offset = end - len; len = len; present = 1 }

-- the part of this length that begins at this index, or none
abbrev pub span_from : ℕ → Option ℕ → Span
span_from start None = record { offset = 0; len = 0; present = 0 }
span_from start (Some len) = record { offset = start; len = len; present = 1 }

-- the place of a part in bytes that begin at this index, in the bytes around them
abbrev pub span_shifted : ℕ → Span → Span
span_shifted start span =
    if span.present == 0 then span
    else record { offset = start + span.offset; len = span.len; present = span.present }
