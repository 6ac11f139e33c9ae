-- The elements of numbers, as a SEQUENCE OF and a SET OF read them.
use Rattle.std.proofs.Common.{◌≡◌, ◌++◌, ◌∷◌, [], ℕ, zero, suc, List, Option, Some, None, refl, length, ◌∙◌, arith}
use Rattle.std.proofs.Common.{option_and_then}
use Rattle.sec1_der.specs.Contents.{value_unless}
use Rattle.sec1_der.specs.Elements.{element, element_of}
use Rattle.sec1_der.proofs.ElementLaws.{element_of-some}
use Rattle.sec1_der.proofs.JoinLaws.{parted}
use Rattle.sec1_der.proofs.FaultLaws.{element_at}
use Rattle.sec1_der.specs.Faults.{Fault}
use Rattle.der_types.specs.Integers.{is_unsigned, unsigned_content}
use Rattle.der_types.proofs.IntegerLaws.{is_unsigned-unsigned_content}
use Rattle.der_types.specs.Contents.{content_if}
use Rattle.der_types.specs.Sequences.{elements_fault, sequence_of}
use Rattle.der_types.specs.Sequences.{is_ascending, set_of}
use Rattle.examples.specs.Numbers.{numbers_content, ascending_content}

abbrev number_fault : Fault
number_fault content = value_unless (is_unsigned content)

-- nothing is refused of the elements of numbers, however many are read
elements_fault-numbers : (most : ℕ) (numbers bytes : List ℕ) → numbers_content numbers ≡ Some bytes
    → elements_fault 0x02 number_fault most bytes ≡ None
elements_fault-numbers zero numbers bytes is = refl
elements_fault-numbers (suc most) [] bytes is = let none : bytes ≡ [] = cc (is) in rw none refl
elements_fault-numbers (suc most) (n ∷ numbers) bytes is =
    let all = parted (element_of 0x02 (Some (unsigned_content n))) (numbers_content numbers) bytes is in
    let first = element_of-some 0x02 (Some (unsigned_content n)) all.front all.first_there in
    let content : unsigned_content n ≡ first.inside = cc (first.same) in
    let at = element_at number_fault (elements_fault 0x02 number_fault most) 0x02 first.inside
    (element 0x02 first.inside ++ all.back) all.back first.at.bounded refl in
    rw (all.joined, first.at.encoded) (at ∙ rw (← content, is_unsigned-unsigned_content n)
    (elements_fault-numbers most numbers all.back all.second_there))

-- the elements of numbers are what a SEQUENCE OF reads
pub reads_sequence : (numbers bytes : List ℕ) → element_of 0x30 (numbers_content numbers) ≡ Some bytes
    → (content : List ℕ) × (numbers_content numbers ≡ Some content)
    × (element_of 0x30 (sequence_of 0x02 number_fault content) ≡ Some bytes)
reads_sequence numbers bytes is =
    let found = element_of-some 0x30 (numbers_content numbers) bytes is in
    let whole = elements_fault-numbers (length found.inside) numbers found.inside found.same in
    (found.inside, found.same, rw whole (rw found.same at is))

-- those in ascending order are what a SET OF reads
pub reads_set : (numbers bytes : List ℕ) → element_of 0x31 (ascending_content numbers) ≡ Some bytes
    → (content : List ℕ) × (numbers_content numbers ≡ Some content)
    × (element_of 0x31 (set_of 0x02 number_fault content) ≡ Some bytes)
reads_set numbers bytes is = by (numbers_content numbers) refl is
  where
    by : (o : Option (List ℕ)) → numbers_content numbers ≡ o
        → element_of 0x31 (option_and_then (content_if is_ascending) o) ≡ Some bytes
        → (content : List ℕ) × (o ≡ Some content)
        × (element_of 0x31 (set_of 0x02 number_fault content) ≡ Some bytes)
    by None same is = absurd (cc is)
    by (Some content) same is =
        let whole = elements_fault-numbers (length content) numbers content same in
        (content, refl, rw whole (grind arith))
