use Rattle.std.proofs.Common.{◌≡◌, ◌<◌, ◌+◌, ℕ, List, Option, Some, None, IsSome, IsSomeAnd, MatchOption, ◌∷◌, []}
use Rattle.std.proofs.Common.{length, sum, arith, ap, refl, sym}
use Rattle.std.proofs.lemmas.Grind.{common_steps}
use Rattle.der_types.specs.Integers.{unsigned_content}
use Rattle.der_types.proofs.IntegerLaws.{unsigned_content-injective}
use Rattle.examples.specs.Numbers.{numbers_content}
use Rattle.examples.proofs.callers.numbers.sum_of.Goals as goal

-- the next number, if there is one, is the first of those that were left
next_left : (next : Option ℕ) (total : ℕ) (all old new : List ℕ)
    → ((left : List ℕ) × (numbers_content left ≡ Some old) × (sum all ≡ total + sum left))
    → (IsSome next → length new < length old)
    → ((value : ℕ) (values : List ℕ) → numbers_content (value ∷ values) ≡ Some old
    → IsSomeAnd next (λ n. Some (unsigned_content n) ≡ Some (unsigned_content value))
    × (numbers_content values ≡ Some new))
    → MatchOption next (sum all ≡ total)
    (λ n. (left : List ℕ) × (numbers_content left ≡ Some new) × (sum all ≡ total + n + sum left))
next_left None total all old new ([], is, same) shorter first = grind (arith, common_steps)
next_left None total all old new (value ∷ left, is, same) shorter first = absurd (first value left is).0
next_left (Some n) total all old new ([], is, same) shorter first =
    let none : [] ≡ old = cc (is) in absurd (omega (arith, ap length none, shorter refl))
next_left (Some n) total all old new (value ∷ left, is, same) shorter first =
    let (found, rest) = first value left is in
    let n_is : n ≡ value = unsigned_content-injective n value (cc) in
    (left, rest, grind (arith, common_steps))

pub returns-in_err-to_u64-clause-only : goal.returns-in_err-to_u64-clause-only
returns-in_err-to_u64-clause-only c = λ numbers is.
    let (left, there, same) = next_left (Some c.in-Some.number) _ numbers _ _ (c.loop-number.invariant.left numbers is)
    c.in-Some.ensures.shorter c.in-Some.ensures.first in
    grind (arith, common_steps)

pub returns-in_err-total-clause-only : goal.returns-in_err-total-clause-only
returns-in_err-total-clause-only c = λ numbers is.
    let (left, there, same) = next_left (Some c.in-Some.number) _ numbers _ _ (c.loop-number.invariant.left numbers is)
    c.in-Some.ensures.shorter c.in-Some.ensures.first in
    grind (arith, common_steps)

pub loop-number-preserved : goal.loop-number-preserved
loop-number-preserved c = record {
  checked = c.in-Some.ensures.checked c.loop-number.invariant.checked;
  fits = omega (arith, c.in_ok-total.ensures);
  read = λ left is.
      let before = c.in-Some.ensures.values left is in
      let (all, same, total) = c.loop-number.invariant.read (c.in-Some.number ∷ left) before in
      (all, same, grind (arith, common_steps));
  left = λ all is.
      let (left, there, same) = next_left (Some c.in-Some.number) _ all _ _ (c.loop-number.invariant.left all is)
      c.in-Some.ensures.shorter c.in-Some.ensures.first in
      (left, there, omega (arith, c.in_ok-to_u64.ensures.0, c.in_ok-total.ensures));
}

pub returns-clause-found : goal.returns-clause-found
returns-clause-found c =
    let (all, same, total) = c.loop-number.invariant.read [] (grind (arith, common_steps)) in
    (all, same, grind (arith, common_steps))

pub returns-clause-only : goal.returns-clause-only
returns-clause-only c = λ numbers is.
    let same = next_left None c.loop-number.total numbers _ _ (c.loop-number.invariant.left numbers is)
    c.in_default.ensures.shorter c.in_default.ensures.first in
    (omega arith, sym same)
