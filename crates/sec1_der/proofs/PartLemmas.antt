-- Parts of a SEQUENCE.
use Rattle.std.proofs.Common.{◌≡◌, ◌==◌, ◌++◌, ◌∷◌, [], ◌&&◌, not, ℕ, List, Bool, true, false, sym, ◌∙◌, Option, Some}
use Rattle.std.proofs.Common.{None, IsSomeAnd, if◌then◌else◌, arith, get_or}
use Rattle.std.proofs.lemmas.Bool.{ne_eqb, or_parts}
use Rattle.std.proofs.lemmas.List.Folds.{list_any-append, list_any_none}
use Rattle.std.proofs.lemmas.List.Sums.{AllPass-from_list_all}
use Rattle.std.specs.List.{list_all}
use Rattle.sec1_der.specs.Parts.{Tags, is_among, Begins, MayFollow, both_tags}
use Rattle.sec1_der.specs.Readers.{Reader, HasReadElement}
use Rattle.sec1_der.specs.Faults.{Fault, optional_fault}
use Rattle.sec1_der.proofs.ElementLaws.{element_of-some, element_of-within}
use Rattle.sec1_der.proofs.FaultLaws.{present, reads_on}

pub ruleset one_element = (element_of-some, element_of-within)

-- each of three tests passes
pub all_three : (a b c : Bool) → (a && (b && c)) ≡ true → (a ≡ true) × (b ≡ true) × (c ≡ true)
all_three a b c e = grind arith

-- a tag of the second list is none of the first, if no tag of the first is one of the second
pub distinct_among : (tag : ℕ) (xs ys : List ℕ) → list_all (λ x. not (is_among x ys)) xs ≡ true → is_among tag ys ≡ true
    → is_among tag xs ≡ false
distinct_among tag xs ys d e = list_any_none (λ x. tag == x) xs (λ i o inside.
    let apart = AllPass-from_list_all (λ x. not (is_among x ys)) xs d i o inside in
    ne_eqb tag (get_or xs i o) (λ same. cc apart))

-- a tag that isn't among two lists is among neither
pub not_among : (tag : ℕ) (xs ys : List ℕ) → is_among tag (xs ++ ys) ≡ false
    → (is_among tag xs ≡ false) × (is_among tag ys ≡ false)
not_among tag xs ys e =
    or_parts (is_among tag xs) (is_among tag ys) (sym (list_any-append (λ other. tag == other) xs ys) ∙ e)

-- what may follow two parts, after the second, may follow the first
pub next_first : (p q : Tags) (y rest : List ℕ) → list_all (λ x. not (is_among x q.first)) p.follow ≡ true
    → Begins q y
    → MayFollow (both_tags p q) rest → MayFollow p (y ++ rest)
next_first p q [] [] d e n = tt
next_first p q [] (byte ∷ rest) d e n = (not_among byte q.follow p.follow (rw e at n)).1
next_first p q (byte ∷ y) rest d e n = distinct_among byte p.follow q.first d e

-- what may follow two parts may follow the second
pub next_second : (p q : Tags) (rest : List ℕ) → MayFollow (both_tags p q) rest → MayFollow q rest
next_second p q [] n = tt
next_second p q (byte ∷ rest) n = by q.nullable n
  where
    by : (b : Bool) → is_among byte (if b then q.follow ++ p.follow else q.follow) ≡ false
        → is_among byte q.follow ≡ false
    by true n = (not_among byte q.follow p.follow n).0
    by false n = n

-- the fault of an optional element that was read is that of what follows it
pub optional_passes : (f : Fault) (tag : ℕ) (content : Option (List ℕ)) (old new : Reader)
    → IsSomeAnd content (λ inside. (f inside ≡ None) × HasReadElement tag inside old new)
    → (rest : Fault) → optional_fault tag f rest old.unread ≡ rest new.unread
optional_passes f tag None old new found rest = absurd found
optional_passes f tag (Some inside) old new found rest =
    present f rest tag inside old new found.1 ∙ (reads_on f tag (Some inside) old new found).next rest
