-- Records of four parts of one kind.
use Rattle.std.specs.Prelude.{ℕ, List, Option}
use Rattle.sec1_der.specs.Contents.{identifier_fault}
use Rattle.sec1_der.specs.Elements.{element_of}
use Rattle.sec1_der.specs.Identifiers.{identifier_content}
use Rattle.sec1_der.specs.Parts.{join}
use Rattle.sec1_der.specs.Faults.{Fault, element_fault, end_fault}

-- four values
abbrev pub Four : Type 0 → Type 0
Four A = (A × A) × (A × A)

-- X.690 section 8.9: four parts in a row, each with its bytes
abbrev pub four_of : {A : Type 0} → (A → Option (List ℕ)) → Four A → Option (List ℕ)
four_of bytes four =
    join (join (bytes four.0.0) (bytes four.0.1)) (join (bytes four.1.0) (bytes four.1.1))

-- the kind by which bytes are refused as four parts
abbrev pub four_fault : (Fault → Fault) → Fault
four_fault and_then = and_then (and_then (and_then (and_then end_fault)))

-- four identifiers
abbrev pub inner_content : Four (List ℕ) → Option (List ℕ)
inner_content = four_of (λ arcs. element_of 0x06 (identifier_content arcs))

abbrev pub inner_fault : Fault
inner_fault = four_fault (element_fault 0x06 identifier_fault)

-- four sequences of four identifiers
abbrev pub middle_content : Four (Four (List ℕ)) → Option (List ℕ)
middle_content = four_of (λ inner. element_of 0x30 (inner_content inner))

abbrev pub middle_fault : Fault
middle_fault = four_fault (element_fault 0x30 inner_fault)
