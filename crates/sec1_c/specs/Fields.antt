-- The length of fields.
use Rattle.std.specs.Prelude.{ℕ, List, length, Option, Some, None}

-- the length of the bytes; 0 if there is no encoding
abbrev pub bytes_len : Option (List ℕ) → ℕ
bytes_len None = 0
bytes_len (Some bytes) = length bytes
