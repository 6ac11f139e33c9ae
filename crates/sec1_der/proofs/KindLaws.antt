-- The kinds of errors, which a rule may leave open. Further crates cite these laws.
use Rattle.std.proofs.Common.{◌≡◌, ◌≢◌, ◌==◌, ◌&&◌, ◌+◌, nat_le, nat_lt, length, if◌then◌else◌, zero, suc, ℕ, List, []}
use Rattle.std.proofs.Common.{◌∷◌, Bool, true, false, Option, Some, None, Result, Ok, Err, refl, sym, ap}
use Rattle.std.specs.Option.{option_or}
use Rattle.std.specs.Str.{bytes_eq}
use Rattle.sec1_der.specs.Identifiers.{arcs_of, are_arcs, content_of, max_identifier_length}
use Rattle.sec1_der.specs.Contents.{value_unless, are_bits, byte_fault, bit_string_fault, whole_bits_fault}
use Rattle.sec1_der.specs.Contents.{whole_bits_field_fault, identifier_fault}
use Rattle.sec1_der.specs.Elements.{is_tag, is_constructed}
use Rattle.sec1_der.specs.Faults.{Fault, IsFaultOf, SaysKinds, no_fault, end_fault, parts_fault, content_at}
use Rattle.sec1_der.specs.Faults.{element_fault, optional_fault, any_fault, nested_fault, forest_fault, tree_fault}
use Rattle.sec1_der.specs.Faults.{document_fault}
use Rattle.sec1_der.specs.Trees.{max_tree_depth}
use Rattle.sec1_der.specs.declared.error.ErrorKind.{ErrorKind}
use Rattle.sec1_der.specs.declared.error.ErrorKind.TheVariants.{Tag}

-- A kind that is known is that of the fault.
pub fault_of : (fault : Option (Option ErrorKind)) (kind : ErrorKind) → fault ≡ Some (Some kind) → IsFaultOf fault kind
fault_of fault kind e = rw e refl

-- What is refused stays so where more is tested after it.
pub parts_refused : (tagged : Bool) (f g : Fault) (found : Result (List ℕ × List ℕ) ErrorKind) (kind : ErrorKind)
    → IsFaultOf (if tagged then parts_fault f no_fault found else Some (Some Tag)) kind
    → IsFaultOf (if tagged then parts_fault f g found else Some (Some Tag)) kind
parts_refused false f g found kind e = e
parts_refused true f g (Err said) kind e = e
parts_refused true f g (Ok x) kind e = by (f x.0) e
  where
    by : (fault : Option (Option ErrorKind)) → IsFaultOf (option_or fault None) kind
        → IsFaultOf (option_or fault (g x.1)) kind
    by None e = absurd e
    by (Some said) e = e

pub refused_more : (f g : Fault) (tag : ℕ) (bytes : List ℕ) (kind : ErrorKind)
    → IsFaultOf (element_fault tag f no_fault bytes) kind → IsFaultOf (element_fault tag f g bytes) kind
refused_more f g tag [] kind e = e
refused_more f g tag (byte ∷ bytes) kind e = parts_refused (byte == tag) f g (content_at bytes) kind e

-- Where a rule says its kinds, that of an error is the one that it says.
pub said_kind : (f : Fault) (bytes : List ℕ) (kind : ErrorKind) → SaysKinds f → IsFaultOf (f bytes) kind
    → f bytes ≡ Some (Some kind)
said_kind f bytes kind says is = by (f bytes) (says.kind bytes) is
  where
    by : (fault : Option (Option ErrorKind)) → fault ≢ Some None → IsFaultOf fault kind → fault ≡ Some (Some kind)
    by None other is = absurd is
    by (Some None) other is = absurd (other refl)
    by (Some (Some named)) other is = ap (λ k. Some (Some k)) (sym is)

-- ---- rules that say their kinds

or_says : (a b : Option (Option ErrorKind)) → a ≢ Some None → b ≢ Some None → option_or a b ≢ Some None
or_says None b first second = second
or_says (Some said) b first second = first

pub either_says : (b : Bool) (a c : Option (Option ErrorKind)) → a ≢ Some None → c ≢ Some None
    → (if b then a else c) ≢ Some None
either_says true a c first second = first
either_says false a c first second = second

unless_says : (passes : Bool) → value_unless passes ≢ Some None
unless_says true e = cc e
unless_says false e = cc e

pub none_says : SaysKinds no_fault
none_says = record { kind = λ bytes e. cc e }

-- A rule says its kinds if it does so of no bytes and of some.
pub split_says : (f : Fault) → f [] ≢ Some None → ((byte : ℕ) (bytes : List ℕ) → f (byte ∷ bytes) ≢ Some None)
    → SaysKinds f
split_says f none some = record { kind = by }
  where
    by : (bytes : List ℕ) → f bytes ≢ Some None
    by [] = none
    by (byte ∷ bytes) = some byte bytes

pub end_says : SaysKinds end_fault
end_says = split_says end_fault (λ e. cc e) (λ byte bytes e. cc e)

parts_says : (f g : Fault) (found : Result (List ℕ × List ℕ) ErrorKind) → SaysKinds f → SaysKinds g
    → parts_fault f g found ≢ Some None
parts_says f g (Err kind) first second e = cc e
parts_says f g (Ok x) first second e = or_says (f x.0) (g x.1) (first.kind x.0) (second.kind x.1) e

pub element_says : (tag : ℕ) (f g : Fault) → SaysKinds f → SaysKinds g → SaysKinds (element_fault tag f g)
element_says tag f g first second =
    split_says (element_fault tag f g) (λ e. cc e)
    (λ byte bytes. either_says (byte == tag) _ _ (parts_says f g (content_at bytes) first second) (λ e. cc e))

pub optional_says : (tag : ℕ) (f g : Fault) → SaysKinds f → SaysKinds g → SaysKinds (optional_fault tag f g)
optional_says tag f g first second =
    split_says (optional_fault tag f g) (second.kind [])
    (λ byte bytes. either_says (byte == tag) _ _ ((element_says tag f g first second).kind (byte ∷ bytes))
    (second.kind (byte ∷ bytes)))

pub any_says : (f : ℕ → Fault) (g : Fault) → ((tag : ℕ) → SaysKinds (f tag)) → SaysKinds g → SaysKinds (any_fault f g)
any_says f g first second =
    split_says (any_fault f g) (λ e. cc e)
    (λ tag bytes. either_says (is_tag tag) _ _ (parts_says (f tag) g (content_at bytes) (first tag) second)
    (λ e. cc e))

-- a rule that refuses as Value what doesn't pass a test
pub test_says : (test : List ℕ → Bool) → SaysKinds (λ bytes. value_unless (test bytes))
test_says test = record { kind = λ bytes e. unless_says (test bytes) e }

pub byte_says : (n : ℕ) → SaysKinds (byte_fault n)
byte_says n = test_says (λ content. bytes_eq content (n ∷ []))

pub bits_says : SaysKinds bit_string_fault
bits_says = split_says bit_string_fault (λ e. cc e) (λ unused bytes. unless_says (are_bits unused bytes))

pub whole_says : SaysKinds whole_bits_fault
whole_says = split_says whole_bits_fault (λ e. cc e) (λ unused bytes. unless_says (unused == 0))

-- one rule, and then another
pub both_say : (f g : Fault) → SaysKinds f → SaysKinds g → SaysKinds (λ bytes. option_or (f bytes) (g bytes))
both_say f g first second = record { kind = λ bytes. or_says _ _ (first.kind bytes) (second.kind bytes) }

pub field_says : SaysKinds whole_bits_field_fault
field_says =
    both_say (element_fault 0x03 bit_string_fault end_fault) (element_fault 0x03 whole_bits_fault no_fault)
    (element_says 0x03 bit_string_fault end_fault bits_says end_says)
    (element_says 0x03 whole_bits_fault no_fault whole_says none_says)

pub identifier_says : SaysKinds identifier_fault
identifier_says =
    test_says (λ content. (are_arcs (arcs_of content)
    && nat_le (length (content_of (arcs_of content))) max_identifier_length)
    && bytes_eq (content_of (arcs_of content)) content)

-- ---- trees

nested_says : (f : Fault) → SaysKinds f → (tag : ℕ) → SaysKinds (nested_fault f tag)
nested_says f says tag = record { kind = λ bytes. either_says (is_constructed tag) _ _ (says.kind bytes) (λ e. cc e) }

trees_say : (most level : ℕ) → SaysKinds (forest_fault most level)
trees_say zero level = record { kind = λ bytes e. cc e }
trees_say (suc most) level =
    let inside = nested_says (forest_fault most (level + 1)) (trees_say most (level + 1)) in
    let row = any_says (nested_fault (forest_fault most (level + 1))) (forest_fault most level) inside
    (trees_say most level) in
    split_says (forest_fault (suc most) level) (λ e. cc e)
    (λ byte bytes. either_says (nat_lt max_tree_depth level) _ _ (λ e. cc e) (row.kind (byte ∷ bytes)))

pub tree_says : SaysKinds tree_fault
tree_says = record {
  kind = λ bytes. let most = length bytes in
      (any_says (nested_fault (forest_fault most 2)) end_fault
      (nested_says (forest_fault most 2) (trees_say most 2)) end_says).kind bytes;
}

pub document_says : SaysKinds document_fault
document_says = any_says (λ _. no_fault) end_fault (λ _. none_says) end_says

-- by these, a rule says its kinds
pub ruleset kinds_said = (
  element_says,
  optional_says,
  any_says,
  end_says,
  none_says,
  test_says,
  byte_says,
  bits_says,
  whole_says,
  field_says,
  identifier_says,
  tree_says,
  document_says,
)
