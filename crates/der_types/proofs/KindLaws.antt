-- Rules that say a kind for all that they refuse. Further crates cite these laws.
use Rattle.std.proofs.Common.{ℕ, zero, suc, List, ◌∷◌, length, not}
use Rattle.std.specs.Str.{bytes_eq}
use Rattle.sec1_der.specs.Contents.{value_unless}
use Rattle.sec1_der.specs.Faults.{Fault, SaysKinds, no_fault}
use Rattle.sec1_der.proofs.KindLaws.{any_says, both_say, either_says, element_says, none_says, split_says, test_says}
use Rattle.der_types.specs.AnyElements.{any_element_fault}
use Rattle.der_types.specs.Choices.{begins_among, choice_fault, optional_part_fault}
use Rattle.der_types.specs.Defaults.{other_fault}
use Rattle.der_types.specs.Sequences.{elements_fault, sequence_fault, is_ascending, set_fault}

elements_say : (tag : ℕ) (f : Fault) → SaysKinds f → (most : ℕ) → SaysKinds (elements_fault tag f most)
elements_say tag f says zero = record { kind = λ bytes e. cc e }
elements_say tag f says (suc most) =
    let row = element_says tag f (elements_fault tag f most) says (elements_say tag f says most) in
    split_says (elements_fault tag f (suc most)) (λ e. cc e) (λ byte bytes. row.kind (byte ∷ bytes))

pub sequence_says : (tag : ℕ) (f : Fault) → SaysKinds f → SaysKinds (sequence_fault tag f)
sequence_says tag f says = record { kind = λ bytes. (elements_say tag f says (length bytes)).kind bytes }

pub set_says : (tag : ℕ) (f : Fault) → SaysKinds f → SaysKinds (set_fault tag f)
set_says tag f says =
    both_say (sequence_fault tag f) (λ bytes. value_unless (is_ascending bytes)) (sequence_says tag f says)
    (test_says is_ascending)

pub other_says : (default : List ℕ) (f : Fault) → SaysKinds f → SaysKinds (other_fault default f)
other_says default f says =
    both_say f (λ content. value_unless (not (bytes_eq content default))) says
    (test_says (λ content. not (bytes_eq content default)))

pub choice_says : (tags : List ℕ) (first second : Fault → Fault) (rest : Fault) → SaysKinds (first rest)
    → SaysKinds (second rest) → SaysKinds (choice_fault tags first second rest)
choice_says tags first second rest one two = record {
  kind = λ bytes. either_says (begins_among tags bytes) _ _ (one.kind bytes) (two.kind bytes);
}

pub optional_part_says : (tags : List ℕ) (part : Fault → Fault) (rest : Fault) → SaysKinds (part rest)
    → SaysKinds rest → SaysKinds (optional_part_fault tags part rest)
optional_part_says tags part rest one two = record {
  kind = λ bytes. either_says (begins_among tags bytes) _ _ (one.kind bytes) (two.kind bytes);
}

pub any_element_says : (rest : Fault) → SaysKinds rest → SaysKinds (any_element_fault rest)
unfolding any_element_fault
any_element_says rest says = any_says (λ _. no_fault) rest (λ _. none_says) says

-- by these, a rule says its kinds
pub ruleset kinds_said =
    (any_element_says, sequence_says, set_says, other_says, choice_says, optional_part_says)
