-- A row of INTEGERs that aren't negative.
use Rattle.std.specs.Prelude.{ℕ, List, Option, Some, option_and_then}
use Rattle.sec1.specs.Der.{Fault, value_unless}
use Rattle.der_types.specs.Integers.{is_unsigned, unsigned_content}
use Rattle.der_types.specs.Contents.{content_if}
use Rattle.der_types.specs.Sequences.{joined, sequence_fault}
use Rattle.der_types.specs.Sequences.{is_ascending, set_fault}

-- X.690 sections 8.10.2 and 8.3: the elements of the numbers, in their order
abbrev pub numbers_content : List ℕ → Option (List ℕ)
numbers_content numbers = joined 0x02 (λ n. Some (unsigned_content n)) numbers

-- the fault of bytes that should be elements of numbers
abbrev pub numbers_fault : Fault
numbers_fault bytes = sequence_fault 0x02 (λ content. value_unless (is_unsigned content)) bytes

-- X.690 section 11.6: the elements of the numbers, if these are in the order of a SET OF
abbrev pub ascending_content : List ℕ → Option (List ℕ)
ascending_content numbers = option_and_then (content_if is_ascending) (numbers_content numbers)

-- the fault of bytes that should be elements of numbers in the order of a SET OF
abbrev pub ascending_fault : Fault
ascending_fault bytes = set_fault 0x02 (λ content. value_unless (is_unsigned content)) bytes
