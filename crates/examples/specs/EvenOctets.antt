-- Octets of an even number: the rule of a type that leaves open by which kind others are refused.
use Rattle.std.specs.Prelude.{ℕ, ◌%◌, ◌==◌, Bool, List, length, Option, Some, None, if◌then◌else◌}
use Rattle.sec1.specs.Der.{Fault}

-- the number of bytes is even
abbrev pub is_even : List ℕ → Bool
is_even bytes = length bytes % 2 == 0

-- the bytes, if their number is even
abbrev pub even_content : List ℕ → Option (List ℕ)
even_content bytes = if is_even bytes then Some bytes else None

-- Bytes of an even number aren't refused, and others are, by a kind that is left open.
abbrev pub even_fault : Fault
even_fault bytes = if is_even bytes then None else Some None
