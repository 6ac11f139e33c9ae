-- Elements that are read one after another.
use Rattle.std.proofs.Common.{◌≡◌, Result, Ok, Err, ℕ, zero, suc, ◌<◌, ◌≤◌, false, List, [], ◌∷◌, ◌++◌, length, Option}
use Rattle.std.proofs.Common.{Some, None, IsSomeAnd, IfOk, refl, ap, sym, ◌∙◌, arith, length-drop}
use Rattle.std.proofs.lemmas.List.{length-take}
use Rattle.sec1_der.specs.Elements.{max_length, element, element_of}
use Rattle.sec1_der.specs.Readers.{Reader, reader_over, HasReadElement}
use Rattle.sec1_der.specs.Faults.{Fault, HasFault, no_fault, element_fault}
use Rattle.sec1_der.specs.declared.error.Error.{Error}
use Rattle.der_types.specs.Sequences.{joined, elements_fault, sequence_fault}
use Rattle.sec1_der.proofs.KindLaws.{refused_more}
use Rattle.sec1_der.proofs.FaultLaws.{reads_on, reader_at}
use Rattle.sec1_der.proofs.JoinLaws.{parted}
use Rattle.sec1_der.proofs.ElementLaws.{element_of-some, element_of-within}

-- ---- the fault of elements

-- two faults of an element are the same if they agree on fewer bytes after it
rest_alike : (f g h : Fault) (tag byte : ℕ) (bytes : List ℕ)
    → ((rest : List ℕ) → length rest ≤ length bytes → g rest ≡ h rest)
    → element_fault tag f g (byte ∷ bytes) ≡ element_fault tag f h (byte ∷ bytes)
rest_alike f g h tag byte bytes alike = grind (arith, length-take {A = ℕ}, length-drop {A = ℕ})

-- the fault of elements is the same by any bound on their number
elements_bound : (tag : ℕ) (f : Fault) (m n : ℕ) (bytes : List ℕ) → length bytes ≤ m → length bytes ≤ n
    → elements_fault tag f m bytes ≡ elements_fault tag f n bytes
elements_bound tag f zero zero [] l r = refl
elements_bound tag f zero (suc n) [] l r = refl
elements_bound tag f (suc m) zero [] l r = refl
elements_bound tag f (suc m) (suc n) [] l r = refl
elements_bound tag f zero n (byte ∷ bytes) l r = absurd (omega arith)
elements_bound tag f (suc m) zero (byte ∷ bytes) l r = absurd (omega arith)
elements_bound tag f (suc m) (suc n) (byte ∷ bytes) l r =
    rest_alike f _ _ tag byte bytes (λ rest few. elements_bound tag f m n rest (omega arith) (omega arith))

-- the fault of elements is that of the first, and then that of the others
sequence_first : (tag : ℕ) (f : Fault) (bytes : List ℕ) → 0 < length bytes
    → sequence_fault tag f bytes ≡ element_fault tag f (sequence_fault tag f) bytes
sequence_first tag f [] some = absurd (omega arith)
sequence_first tag f (byte ∷ bytes) some =
    rest_alike f _ _ tag byte bytes
    (λ rest few. elements_bound tag f (length bytes) (length rest) rest few (omega arith))

-- the reader stands before some of the elements: the fault of all of them is that of these
pub record IsSequenceRest (tag : ℕ) (f : Fault) (start : List ℕ) (now : Reader) : Type 0 where
  pub whole : now.failed ≡ false
  pub same : sequence_fault tag f start ≡ sequence_fault tag f now.unread

-- the reader stands after one more element
pub sequence_continues : (tag : ℕ) (f : Fault) (start : List ℕ) (content : Option (List ℕ))
    (old new : Reader) → IsSequenceRest tag f start old
    → 0 < length old.unread
    → IsSomeAnd content (λ inside. (f inside ≡ None) × HasReadElement tag inside old new)
    → IsSequenceRest tag f start new
sequence_continues tag f start content old new at some found =
    let on = reads_on f tag content old new found in
    record {
      whole = on.whole;
      same = at.same ∙ (sequence_first tag f old.unread some ∙ on.next (sequence_fault tag f));
    }

-- ---- lists of values

-- some values have these bytes
abbrev pub HasValues : {A : Type 0} → ℕ → (A → Option (List ℕ)) → List ℕ → Type 0
HasValues {A} tag content bytes = (values : List A) × (joined tag content values ≡ Some bytes)

-- the bytes that are left are those of values exactly where all of the bytes are
pub record AreValues {A : Type 0} (tag : ℕ) (content : A → Option (List ℕ)) (start left : List ℕ) : Type 0 where
  pub found : HasValues tag content left → HasValues tag content start
  pub only : HasValues tag content start → HasValues tag content left

-- the value that was read, in front of those that are left
value_read : (tag : ℕ) (f : Fault) {A : Type 0} (content : A → Option (List ℕ)) (value : A) (old new : Reader)
    → IsSomeAnd (content value) (λ inside. (f inside ≡ None) × HasReadElement tag inside old new)
    → HasValues tag content new.unread → HasValues tag content old.unread
value_read tag f content value old new found left = (value ∷ left.0, by (content value) refl found)
  where
    by : (c : Option (List ℕ)) → content value ≡ c
        → IsSomeAnd c (λ inside. (f inside ≡ None) × HasReadElement tag inside old new)
        → joined tag content (value ∷ left.0) ≡ Some old.unread
    by None e found = absurd found
    by (Some inside) e (meets, found) =
        let element = element_of-within tag (content value) inside e found.bounded in
        rw (element, left.1, ap (λ (r : Reader). r.unread) found.read.was_unfailed) refl

-- the first of the values that are left
pub record FirstValue {A : Type 0} (tag : ℕ) (content : A → Option (List ℕ)) (bytes : List ℕ) : Type 0 where
  pub value : A
  pub inside : List ℕ
  pub left : List ℕ
  pub same : content value ≡ Some inside
  pub bounded : length inside ≤ max_length
  pub split : bytes ≡ element tag inside ++ left
  pub rest : HasValues tag content left

pub first_value : (tag : ℕ) {A : Type 0} (content : A → Option (List ℕ)) (bytes : List ℕ) → 0 < length bytes
    → HasValues tag content bytes → FirstValue tag content bytes
first_value tag content bytes some ([], e) = let none : [] ≡ bytes = cc (e) in absurd (omega (arith, ap length none))
first_value tag content bytes some (value ∷ values, e) =
    let all = parted (element_of tag (content value)) (joined tag content values) bytes e in
    let first = element_of-some tag (content value) all.front all.first_there in
    record {
      value = value;
      inside = first.inside;
      left = all.back;
      same = first.same;
      bounded = first.at.bounded;
      split = all.joined ∙ ap (λ xs. xs ++ all.back) first.at.encoded;
      rest = (values, all.second_there);
    }

-- the reader that read the first of them stands before the others
pub values_read : (tag : ℕ) (f : Fault) {A : Type 0} (content : A → Option (List ℕ)) (start : List ℕ)
    (value : A) (old new : Reader)
    → AreValues tag content start old.unread → 0 < length old.unread → old.failed ≡ false
    → IsSomeAnd (content value) (λ inside. (f inside ≡ None) × HasReadElement tag inside old new)
    → ((a : A) (inside left : List ℕ) → content a ≡ Some inside → length inside ≤ max_length
    → old ≡ reader_over (element tag inside ++ left) → new ≡ reader_over left)
    → AreValues tag content start new.unread
values_read tag f content start value old new at some whole found read = record {
  found = λ left. at.found (value_read tag f content value old new found left);
  only = λ all.
      let first = first_value tag content old.unread some (at.only all) in
      let next = read first.value first.inside first.left first.same first.bounded
      (reader_at old _ first.split whole) in
      rw (ap (λ (r : Reader). r.unread) next) first.rest;
}

-- if values are left, the first of them is read
pub value_there : (tag : ℕ) {A : Type 0} (content : A → Option (List ℕ)) (start : List ℕ) (old : Reader) (C : Type 0)
    → AreValues tag content start old.unread → 0 < length old.unread → old.failed ≡ false → HasValues tag content start
    → ((a : A) (inside left : List ℕ) → content a ≡ Some inside → length inside ≤ max_length
    → old ≡ reader_over (element tag inside ++ left) → C) → C
value_there tag content start old C at some whole all read =
    let first = first_value tag content old.unread some (at.only all) in
    read first.value first.inside first.left first.same first.bounded (reader_at old _ first.split whole)

-- an element that is read from elements is there, and what is left is elements
pub elements_left : (tag : ℕ) (f : Fault) {A : Type 0} (content : A → Option (List ℕ))
    (result : Result A Error) (old new : Reader)
    → sequence_fault tag f old.unread ≡ None → 0 < length old.unread
    → IfOk result
    (λ value. IsSomeAnd (content value) (λ inside. (f inside ≡ None) × HasReadElement tag inside old new))
    → HasFault result (element_fault tag f no_fault old.unread)
    → (new.failed ≡ false) × (sequence_fault tag f new.unread ≡ None)
elements_left tag f content (Ok value) old new whole some found kind =
    let on = reads_on f tag (content value) old new found in
    (on.whole, sym (on.next (sequence_fault tag f)) ∙ (sym (sequence_first tag f old.unread some) ∙ whole))
elements_left tag f content (Err e) old new whole some found kind =
    let refused = refused_more f (sequence_fault tag f) tag old.unread e.kind kind in
    let none = sym (sequence_first tag f old.unread some) ∙ whole in
    absurd (rw none at refused)
