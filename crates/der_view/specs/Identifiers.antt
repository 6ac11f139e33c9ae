-- The content of an identifier, as it is kept.
use Rattle.std.specs.Prelude.{ℕ, List, [], length, nat_le, if◌then◌else◌}

-- the content, if it has at most 12 bytes
abbrev pub identifier_in : List ℕ → List ℕ
identifier_in content = if nat_le (length content) 12 then content else []
