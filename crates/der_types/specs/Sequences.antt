-- X.690 sections 8.10, 8.12 and 11.6: elements of one type, one after another, or in ascending
-- order of their encodings.
use Rattle.std.specs.Prelude.{ℕ, zero, suc, Bool, true, List, [], ◌∷◌, length, Option, is_none}
use Rattle.std.specs.Prelude.{Some, None, if◌then◌else◌, ◌&&◌, Result, Ok, Err}
use Rattle.sec1_der.specs.Elements.{element_of, element, is_tag}
use Rattle.sec1_der.specs.Parts.{join}
use Rattle.sec1_der.specs.Faults.{Fault, element_fault, content_at}
use Rattle.sec1_der.specs.declared.error.ErrorKind.{ErrorKind}
use Rattle.std.specs.Cmp.Lexicographic.{slice_cmp}
use Rattle.std.specs.Option.{option_or}
use Rattle.std.specs.Ordering.{is_le, nat_cmp}
use Rattle.sec1_der.specs.Contents.{value_unless}

-- X.690 section 8.10.2: the elements of values, in their order
abbrev pub joined : {A : Type 0} → ℕ → (A → Option (List ℕ)) → List A → Option (List ℕ)
joined tag content [] = Some []
joined tag content (value ∷ values) =
    join (element_of tag (content value)) (joined tag content values)

-- the fault of elements with this tag, up to a greatest number of them
abbrev pub elements_fault : ℕ → Fault → ℕ → Fault
elements_fault tag f zero bytes = None
elements_fault tag f (suc most) [] = None
elements_fault tag f (suc most) (byte ∷ bytes) =
    element_fault tag f (elements_fault tag f most) (byte ∷ bytes)

-- the fault of elements with this tag to the end of the bytes, which are at most as many as there
-- are bytes
abbrev pub sequence_fault : ℕ → Fault → Fault
sequence_fault tag f bytes = elements_fault tag f (length bytes) bytes

-- X.690 section 8.10.1: the content of elements with this tag, if the bytes are elements
abbrev pub sequence_of : ℕ → Fault → List ℕ → Option (List ℕ)
sequence_of tag f bytes = if is_none (sequence_fault tag f bytes) then Some bytes else None

-- the bytes of the element with this tag, if its content was found, and what follows it
abbrev pub element_and_rest : ℕ → Result (List ℕ × List ℕ) ErrorKind → Option (List ℕ × List ℕ)
element_and_rest tag (Err kind) = None
element_and_rest tag (Ok x) = Some (element tag x.0, x.1)

-- X.690 section 8.1.1: the bytes of the element that bytes begin with, and what follows it
abbrev pub first_element : List ℕ → Option (List ℕ × List ℕ)
first_element [] = None
first_element (tag ∷ bytes) =
    if is_tag tag then element_and_rest tag (content_at bytes) else None

-- X.690 section 11.6: whether an encoding stands before another or is the same. They are compared
-- as octet strings. The standard pads the shorter one with zeros. This makes no difference, as no
-- encoding is the beginning of a longer one.
abbrev pub is_at_most : List ℕ → List ℕ → Bool
is_at_most a b = is_le (slice_cmp nat_cmp a b)

-- whether the first element isn't below the last one, and what follows it ascends from it
abbrev pub ascends_by : (List ℕ → List ℕ → Bool) → List ℕ → Option (List ℕ × List ℕ) → Bool
ascends_by rest last None = true
ascends_by rest last (Some x) = is_at_most last x.0 && rest x.0 x.1

-- whether the elements, up to a greatest number of them, ascend from the last one; they end where
-- the bytes begin with no element
abbrev pub ascends : ℕ → List ℕ → List ℕ → Bool
ascends zero last bytes = true
ascends (suc most) last bytes = ascends_by (ascends most) last (first_element bytes)

-- X.690 section 11.6: whether the elements at the beginning of the bytes are in ascending order, up
-- to the end or to the first place where no element begins. There are at most as many as there are
-- bytes.
abbrev pub is_ascending : List ℕ → Bool
is_ascending bytes = ascends (length bytes) [] bytes

-- X.690 section 11.6: the fault of elements with this tag to the end of the bytes; their order is
-- tested after they were read
abbrev pub set_fault : ℕ → Fault → Fault
set_fault tag f bytes = option_or (sequence_fault tag f bytes) (value_unless (is_ascending bytes))

-- X.690 section 8.12.1: the content of elements with this tag, if the bytes are elements in
-- ascending order
abbrev pub set_of : ℕ → Fault → List ℕ → Option (List ℕ)
set_of tag f bytes = if is_none (set_fault tag f bytes) then Some bytes else None
