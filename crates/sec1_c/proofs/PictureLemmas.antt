-- What is written into a slice from its beginning: the text of a picture, or its lines.
use Rattle.std.proofs.Common.{◌≡◌, ℕ, zero, suc, ◌+◌, ◌-◌, ◌^◌, ◌≤◌, ◌<◌, ◌∙◌, List, [], ◌∷◌, ◌++◌, ap, arith, refl}
use Rattle.std.proofs.Common.{sym, ap₂, Bool, true, false, length, take, drop, take_all, take_at, min, inl, inr}
use Rattle.std.proofs.Common.{if◌then◌else◌, subst}
use Rattle.std.proofs.Common.{length-append, length-drop}
use Rattle.std.proofs.Math.Seq.{drop-append_seam, drop-drop, take-nil}
use borrow.Rule.Slice.PartMut.{put_mid}
use Rattle.std.proofs.lemmas.Bool.{cases_lt}
use Rattle.std.proofs.lemmas.List.{drop_all, length-take}
use mir.Val.{bool_byte}
use Rattle.sec1_c.specs.Outputs.{Writes}
use Rattle.sec1_c.specs.Pictures.{AreStored, Fills, IsDrawn, IsStored}

-- ---- a slice

module _ {A : Type 0} where
  -- one whose first elements are these items, as many as it has room for
  abbrev filled : List A → List A → List A
  filled items old = take (length old) items ++ drop (length items) old

  length-filled : (items old : List A) → length (filled items old) ≡ length old
  length-filled items old =
      omega (
        arith,
        length-append (take (length old) items) (drop (length items) old),
        length-take (length old) items,
        length-drop (length items) old,
      )

  from_start : (items old : List A) (n : ℕ) → n ≡ min (length items) (length old)
      → take n items ++ drop n old ≡ filled items old
  from_start items old n is = elim (cases_lt (length old) (length items)) [
    | inl long ↦
        let all : n ≡ length old = omega arith in
        rw (all, drop_all (length old) old (omega arith), drop_all (length items) old (omega arith)) refl
    | inr short ↦
        let all : n ≡ length items = omega arith in
        rw (all, take_all (length items) items (omega arith), take_all (length old) items short) refl
  ]

  -- as many of the items as fit are put behind those that were put there before
  more : (before old items : List A) (start n : ℕ) → start ≡ min (length before) (length old)
      → n ≡ min (length items) (length old - start)
      → take start (filled before old) ++ (take n items ++ drop (start + n) (filled before old))
      ≡ filled (before ++ items) old
  more [] old items zero n first second =
      let none : filled [] old ≡ old = ap (λ l. l ++ old) (take-nil (length old)) in
      let sum : 0 + n ≡ n = omega arith in
      ap (λ k. take 0 (filled [] old) ++ (take n items ++ drop k (filled [] old))) sum
      ∙ (ap (λ xs. take 0 xs ++ (take n items ++ drop n xs)) none
      ∙ (ap (λ l. l ++ (take n items ++ drop n old)) (take_at [] old 0 refl)
      ∙ from_start items old n (omega (arith, second))))
  more (x ∷ before) (y ∷ old) items (suc start) n first second =
      let sum : suc start + n ≡ suc (start + n) = omega arith in
      ap (λ k. x ∷ (take start (filled before old) ++ (take n items ++ drop k (x ∷ filled before old)))) sum
      ∙ ap (λ rest. x ∷ rest) (more before old items start n (omega (arith, first)) (omega (arith, second)))
  more (x ∷ before) [] items zero zero first second = refl
  more [] old items (suc start) n first second = absurd (omega (arith, first))
  more (x ∷ before) (y ∷ old) items zero n first second = absurd (omega (arith, first))
  more (x ∷ before) [] items (suc start) n first second = absurd (omega (arith, first))
  more (x ∷ before) [] items zero (suc n) first second = absurd (omega (arith, second))

-- one more piece
pub appended : {A : Type 0} (old new items piece : List A) (count new_count start n size : ℕ) → length old ≤ 2 ^ 64 - 1
    → start ≡ min count (length old) → n ≡ min (length items) (length old - start) → size ≡ n → piece ≡ take n items
    → new ≡ put_mid start size old piece → new_count ≡ min (count + length items) (2 ^ 64 - 1)
    → Fills old count new new_count items
appended old new items piece count new_count start n size few first second same is wrote counts from before held =
    let len : length old ≡ length from = ap length held.stored ∙ length-filled before from in
    record {
      count_is = omega (arith, counts, held.count_is, length-append before items);
      stored =
          wrote
          ∙ (ap₂ (λ (k : ℕ) (piece : List _). put_mid start k old piece) same is
          ∙ (ap (λ rest. take start old ++ (take n items ++ rest)) (drop-drop n start old)
          ∙ (ap (λ old. take start old ++ (take n items ++ drop (start + n) old)) held.stored
          ∙ more before from items start n (omega (arith, first, held.count_is, len, few))
          (omega (arith, second, len)))));
    }

-- ---- the text of a picture

-- a text that was written into memory is stored from there
pub drawn : (text old new bytes first memory : List ℕ) (key result stored is_key len : ℕ)
    → AreStored first memory len text → length first ≡ length old → length old < 2 ^ 64 - 1 → len ≤ length old
    → bytes ≡ take len memory → Writes bytes old new result stored → is_key ≡ key
    → IsDrawn text key old new result stored is_key
drawn text old new bytes first memory key result stored is_key len written size few within is writes told =
    let same : len ≡ length text = omega (arith, written.count_is, few, within) in
    let all : bytes ≡ text =
    is
    ∙ (ap (take len)
    (written.stored ∙ ap (λ l. l ++ drop (length text) first) (take_all (length first) text (omega arith)))
    ∙ take_at text (drop (length text) first) len (sym same)) in
    let count : length bytes ≡ length text = ap length all in
    let done = writes.fits (omega (arith, count, same, within)) in
    record {
      len_is = omega (arith, writes.len, count, same, few, within);
      fits = λ fits. (
        done.0,
        done.1
            ∙ (ap (λ b. b ++ drop (length bytes) old) all ∙ ap (λ n. text ++ drop n old) (sym writes.len)),
        told,
      );
      short = λ short. absurd (omega (arith, short, same, within));
    }

-- some text is stored
pub stored_so : (bytes old new : List ℕ) (result len is_key : ℕ) → Writes bytes old new result len
    → length bytes ≤ length old → IsStored old new result len is_key
stored_so bytes old new result len is_key writes within =
    let done = writes.fits within in
    record {
      fits = λ ok. (
        omega (arith, writes.len, within),
        rw (done.1, writes.len) (drop-append_seam bytes (drop (length bytes) old)),
      );
      short = λ other. absurd (other done.0);
    }

-- the number that says whether there is a key
pub told_number : (found has : Bool) (number : ℕ) → number ≡ bool_byte found → found ≡ has
    → number ≡ (if has then 1 else 0)
told_number true has number is same = subst (λ b. number ≡ (if b then 1 else 0)) same is
told_number false has number is same = subst (λ b. number ≡ (if b then 1 else 0)) same is
