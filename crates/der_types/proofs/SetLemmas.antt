-- Elements in ascending order.
use Rattle.std.proofs.Common.{◌≡◌, ◌&&◌, Result, Ok, Err, ℕ, zero, suc, ◌≤◌, Bool, true, false, not, List, [], ◌∷◌}
use Rattle.std.proofs.Common.{◌++◌, length, Some, None, if◌then◌else◌, Ordering, Less, Equal, Greater, ◌-◌, take, refl}
use Rattle.std.proofs.Common.{ap, sym, ◌∙◌, arith, length-append}
use Rattle.std.proofs.Math.Seq.{take-append_seam}
use Rattle.std.specs.Cmp.Lexicographic.{slice_cmp, slice_partial_cmp, lists_agrees}
use Rattle.std.specs.Ordering.{is_le, is_gt, is_some_and, nat_cmp}
use Rattle.sec1_der.specs.Elements.{element, IsHeader, is_tag}
use Rattle.sec1_der.specs.Faults.{Fault, no_fault, any_fault, parts_fault, content_at}
use Rattle.sec1_der.specs.declared.error.ErrorKind.{ErrorKind}
use Rattle.sec1_der.specs.declared.error.ErrorKind.TheVariants.{Tag}
use Rattle.sec1_der.proofs.FaultLaws.{split_octets}
use Rattle.der_types.specs.Sequences.{element_and_rest, first_element, is_at_most, ascends, is_ascending}

-- the element that bytes begin with is found
pub first_found : (tag : ℕ) (content bytes rest : List ℕ) → IsHeader tag (length content)
    → bytes ≡ element tag content ++ rest → first_element bytes ≡ Some (element tag content, rest)
first_found tag content bytes rest h e =
    rw (e, h.tag_byte, split_octets content rest h.bounded) refl

-- where an element is refused, none is found
pub first_missing : (bytes : List ℕ) (k : ErrorKind) → any_fault (λ _. no_fault) no_fault bytes ≡ Some (Some k)
    → first_element bytes ≡ None
first_missing [] k e = refl
first_missing (byte ∷ bytes) k e = by (is_tag byte) (content_at bytes) e
  where
    by : (b : Bool) (found : Result (List ℕ × List ℕ) ErrorKind)
        → (if b then parts_fault no_fault no_fault found else Some (Some Tag)) ≡ Some (Some k)
        → (if b then element_and_rest byte found else None) ≡ None
    by false found e = refl
    by true (Err kind) e = refl
    by true (Ok x) e = absurd (cc e)

-- an encoding isn't above another if it is the same or stands before it
pub not_above : (a b : List ℕ) (r : Bool) → r ≡ is_some_and is_gt (slice_partial_cmp (λ x y. Some (nat_cmp x y)) a b)
    → is_at_most a b ≡ not r
not_above a b r e =
    let agree = lists_agrees {R = nat_cmp} (λ x y. refl) a b in
    by (slice_cmp nat_cmp a b) ∙ ap not (sym (e ∙ ap (is_some_and is_gt) agree))
  where
    by : (o : Ordering) → is_le o ≡ not (is_gt o)
    by Less = refl
    by Equal = refl
    by Greater = refl

-- some of the elements are left: all of them ascend if these ascend from the last one
pub record IsSetRest (start last rest : List ℕ) : Type 0 where
  pub most : ℕ
  pub room : length rest ≤ most
  pub same : is_ascending start ≡ ascends most last rest

-- the bytes begin with this element
pub record IsNext (this rest after : List ℕ) : Type 0 where
  pub tag : ℕ
  pub content : List ℕ
  pub is_header : IsHeader tag (length content)
  pub split : rest ≡ element tag content ++ after
  pub bytes : this ≡ element tag content

-- the bytes in front of those that follow it are the element's
pub next_split : (tag : ℕ) (content rest after : List ℕ) → IsHeader tag (length content)
    → rest ≡ element tag content ++ after → IsNext (take (length rest - length after) rest) rest after
next_split tag content rest after h split =
    let count : length rest - length after ≡ length (element tag content) =
    omega (arith, ap length split, length-append (element tag content) after) in
    record {
      tag = tag;
      content = content;
      is_header = h;
      split = split;
      bytes = rw (count, split) (take-append_seam (element tag content) after);
    }

-- elements ascend if the first isn't below the last one, and the others ascend from it
set_step : (most : ℕ) (last this rest after : List ℕ) → IsNext this rest after
    → ascends (suc most) last rest ≡ (is_at_most last this && ascends most this after)
set_step most last this rest after next =
    rw (first_found next.tag next.content rest after next.is_header next.split, next.bytes) refl

-- one more element was read, which isn't below the last one
pub set_continues : (start last this rest after : List ℕ) → IsSetRest start last rest → IsNext this rest after
    → is_at_most last this ≡ true → IsSetRest start this after
set_continues start last this rest after at next above = by at.most at.room at.same
  where
    by : (most : ℕ) → length rest ≤ most → is_ascending start ≡ ascends most last rest → IsSetRest start this after
    by zero room same = absurd (omega (arith, ap length next.split))
    by (suc most) room same = record {
      most = most;
      room = omega (arith, ap length next.split, length-append (element next.tag next.content) after);
      same = same ∙ (set_step most last this rest after next ∙ rw above refl);
    }

-- where the next element is below the last one, not all of them ascend
pub set_falls : (start last this rest after : List ℕ) → IsSetRest start last rest → IsNext this rest after
    → is_at_most last this ≡ false → is_ascending start ≡ false
set_falls start last this rest after at next below = by at.most at.room at.same
  where
    by : (most : ℕ) → length rest ≤ most → is_ascending start ≡ ascends most last rest → is_ascending start ≡ false
    by zero room same = absurd (omega (arith, ap length next.split))
    by (suc most) room same = same ∙ (set_step most last this rest after next ∙ rw below refl)

-- where no element is next, all of them ascend
pub set_stops : (start last rest : List ℕ) (k : ErrorKind) → IsSetRest start last rest
    → ((content : ℕ → Fault) (after : Fault) → any_fault content after rest ≡ Some (Some k))
    → is_ascending start ≡ true
set_stops start last rest k at refused = at.same ∙ by at.most
  where
    by : (most : ℕ) → ascends most last rest ≡ true
    by zero = refl
    by (suc most) = rw (first_missing rest k (refused (λ _. no_fault) no_fault)) refl
