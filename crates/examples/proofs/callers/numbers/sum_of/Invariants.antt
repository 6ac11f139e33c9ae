use Rattle.std.proofs.Common.{◌≡◌, ◌<◌, ◌+◌, ◌^◌, ℕ, List, Some, None, length, sum}
use Rattle.examples.specs.Numbers.{numbers_content, numbers_fault}
use Rattle.examples.proofs.callers.numbers.sum_of.Given as goal

-- the numbers that are left, with those that were read, are all of them
abbrev pub invariant-loop-number : goal.invariant-loop-number
invariant-loop-number l = record {
  checked : numbers_fault l.elements ≡ None;
  fits : l.total < 2 ^ 64;
  read : (left : List ℕ) → numbers_content left ≡ Some l.elements
      → (all : List ℕ) × (numbers_content all ≡ Some l.initial.elements) × (sum all ≡ l.total + sum left);
  left : (all : List ℕ) → numbers_content all ≡ Some l.initial.elements
      → (left : List ℕ) × (numbers_content left ≡ Some l.elements) × (sum all ≡ l.total + sum left);
}

abbrev pub decreases-loop-number : goal.decreases-loop-number
decreases-loop-number l = length l.elements
