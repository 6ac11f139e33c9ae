-- The kinds by which bytes are refused, where all refusals have one.
use Rattle.std.proofs.Common.{◌≡◌, ℕ, List, Some}
use Rattle.der_types.specs.Integers.{is_unsigned}
use Rattle.pkix.specs.Records.{certificate_fault, signature_fault, unsigned_fault}
use Rattle.pkix.proofs.KindLaws.{certificate_says}
use Rattle.sec1_der.specs.Faults.{IsFaultOf, any_fault, element_fault, end_fault, no_fault, tree_fault}
use Rattle.sec1_der.specs.declared.error.ErrorKind.{ErrorKind}
use Rattle.sec1_der.proofs.KindLaws.{any_says, element_says, end_says, none_says, said_kind, test_says}
use Rattle.sec1_der.proofs.KindLaws.{tree_says}

pub certificate_kind : (bytes : List ℕ) (kind : ErrorKind)
    → IsFaultOf (element_fault 0x30 certificate_fault end_fault bytes) kind
    → element_fault 0x30 certificate_fault end_fault bytes ≡ Some (Some kind)
certificate_kind bytes kind is =
    said_kind (element_fault 0x30 certificate_fault end_fault) bytes kind
    (element_says 0x30 certificate_fault end_fault certificate_says end_says) is

pub signature_kind : (bytes : List ℕ) (kind : ErrorKind)
    → IsFaultOf (element_fault 0x30 signature_fault end_fault bytes) kind
    → element_fault 0x30 signature_fault end_fault bytes ≡ Some (Some kind)
signature_kind bytes kind is =
    said_kind (element_fault 0x30 signature_fault end_fault) bytes kind
    (element_says 0x30 signature_fault end_fault
    (element_says 0x02 unsigned_fault (element_fault 0x02 unsigned_fault end_fault) (test_says is_unsigned)
    (element_says 0x02 unsigned_fault end_fault (test_says is_unsigned) end_says))
    end_says) is

pub tree_kind : (bytes : List ℕ) (kind : ErrorKind) → IsFaultOf (tree_fault bytes) kind
    → tree_fault bytes ≡ Some (Some kind)
tree_kind bytes kind is = said_kind tree_fault bytes kind tree_says is

pub any_kind : (bytes : List ℕ) (kind : ErrorKind) → IsFaultOf (any_fault (λ _. no_fault) no_fault bytes) kind
    → any_fault (λ _. no_fault) no_fault bytes ≡ Some (Some kind)
any_kind bytes kind is =
    said_kind (any_fault (λ _. no_fault) no_fault) bytes kind
    (any_says (λ _. no_fault) no_fault (λ _. none_says) none_says) is
