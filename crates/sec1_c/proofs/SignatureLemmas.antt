-- The places of a signature's numbers.
use Rattle.std.proofs.Common.{◌≡◌, ◌+◌, ◌≤◌, ◌++◌, [], ℕ, List, length, Some, IsSome, arith, length-append}
use Rattle.std.proofs.Common.{append_assoc}
use Rattle.std.proofs.lemmas.List.{append-nil}
use Rattle.der_types.specs.Integers.{unsigned_content}
use Rattle.pkix.specs.Records.{signature_content}
use Rattle.pkix.specs.declared.signature.EcdsaSigValue.{EcdsaSigValue}
use Rattle.sec1_der.proofs.ElementLaws.{element_of-some}
use Rattle.sec1_der.proofs.JoinLaws.{parted}
use Rattle.sec1_der.specs.Elements.{element_of, header, max_length, within_limit}
use Rattle.sec1_c.specs.Fields.{bytes_len}
use Rattle.sec1_c.specs.Signatures.{AreSignaturePartsOf, IsSignature, signature_places}
use Rattle.sec1_c.proofs.FieldLemmas.{limited}
use Rattle.sec1_c.proofs.PlaceLemmas.{stands_before}

-- A signature is a front, the content of r, the header of s, and the content of s.
record IsSplit (value : EcdsaSigValue) (bytes : List ℕ) : Type 0 where
  front : List ℕ
  head : List ℕ
  last : List ℕ
  last_there : element_of 0x02 (Some (unsigned_content value.s)) ≡ Some last
  last_is : last ≡ head ++ unsigned_content value.s
  split : bytes ≡ front ++ (unsigned_content value.r ++ last)
  bounded : length last ≤ max_length

split_signature : (value : EcdsaSigValue) (bytes : List ℕ) → IsSignature value bytes → IsSplit value bytes
split_signature value bytes is =
    let whole = element_of-some 0x30 (signature_content value) bytes is in
    let r = element_of 0x02 (Some (unsigned_content value.r)) in
    let s = element_of 0x02 (Some (unsigned_content value.s)) in
    let both = parted r s whole.inside whole.same in
    let first = element_of-some 0x02 (Some (unsigned_content value.r)) both.front both.first_there in
    let second = element_of-some 0x02 (Some (unsigned_content value.s)) both.back both.second_there in
    record {
      front = header 0x30 (length whole.inside) ++ header 0x02 (length first.inside);
      head = header 0x02 (length second.inside);
      last = both.back;
      last_there = both.second_there;
      last_is = grind (arith, append_assoc);
      split = grind (arith, append_assoc);
      bounded = grind (arith, length-append, whole.at.bounded);
    }

-- the numbers are at their places
pub numbers_stand : (value : EcdsaSigValue) (bytes : List ℕ) → IsSignature value bytes
    → AreSignaturePartsOf value bytes (signature_places value bytes)
numbers_stand value bytes is =
    let parts = split_signature value bytes is in
    record {
      r = rw parts.last_there
          (stands_before bytes parts.front (unsigned_content value.r) parts.last _ parts.split
          (grind (arith, length-append)));
      s = stands_before bytes (parts.front ++ (unsigned_content value.r ++ parts.head)) (unsigned_content value.s) [] _
          (grind (arith, append_assoc, append-nil)) (grind (arith, length-append));
    }

-- The lengths have room in the bytes of a signature.
pub record HaveRoom (value : EcdsaSigValue) (bytes : List ℕ) : Type 0 where
  pub last : IsSome (within_limit (element_of 0x02 (Some (unsigned_content value.s))))
  pub room :
      length (unsigned_content value.r) + bytes_len (element_of 0x02 (Some (unsigned_content value.s)))
      ≤ length bytes
  pub number : length (unsigned_content value.s) ≤ length bytes

pub numbers_fit : (value : EcdsaSigValue) (bytes : List ℕ) → IsSignature value bytes → HaveRoom value bytes
numbers_fit value bytes is =
    let parts = split_signature value bytes is in
    record {
      last = limited (element_of 0x02 (Some (unsigned_content value.s))) parts.last parts.last_there parts.bounded;
      room = rw parts.last_there (grind (arith, length-append));
      number = grind (arith, length-append);
    }
