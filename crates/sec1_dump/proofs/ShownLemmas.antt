-- What is known of an input by what was read of it.
use Rattle.std.proofs.Common.{◌≡◌, ℕ, ◌+◌, ◌<◌, ◌≤◌, List, [], ◌++◌, length, take}
use Rattle.std.proofs.Common.{Option, Some, None, IfSome, ap, arith, option_map, subst, ◌∙◌}
use Rattle.std.proofs.lemmas.List.{length-take, take_all}

-- what was read of at most one byte more than so many is all, unless it is that many
pub read_all : (most : ℕ) (left : Option (List ℕ)) (items : List ℕ)
    → IfSome (option_map (take (most + 1)) left) (λ xs. items ≡ [] ++ xs) → length items ≤ most
    → IfSome left (λ bytes. items ≡ bytes)
read_all most None items read few = tt
read_all most (Some bytes) items read few =
    let short : length bytes ≤ most + 1 = omega (arith, ap length read, length-take (most + 1) bytes) in
    read ∙ take_all (most + 1) bytes short

pub too_long : (most : ℕ) (left : Option (List ℕ)) (items : List ℕ)
    → IfSome (option_map (take (most + 1)) left) (λ xs. items ≡ [] ++ xs) → most < length items
    → IfSome left (λ bytes. most < length bytes)
too_long most None items read more = tt
too_long most (Some bytes) items read more = omega (arith, ap length read, length-take (most + 1) bytes)

-- what holds of all that was read holds of the input
pub of_read : (P : List ℕ → Type 0) (left : Option (List ℕ)) (items : List ℕ) → IfSome left (λ bytes. items ≡ bytes)
    → P items → IfSome left P
of_read P None items read holds = tt
of_read P (Some bytes) items read holds = subst P read holds
