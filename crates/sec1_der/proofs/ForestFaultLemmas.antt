-- What rows of elements are refused by, and what a walk over a tree has left.
use Rattle.std.proofs.Common.{◌≡◌, ℕ, zero, suc, ◌+◌, ◌-◌, ◌<◌, ◌≤◌, if◌then◌else◌, nat_lt, bit_and, List, [], ◌∷◌}
use Rattle.std.proofs.Common.{get_or, ◌++◌, length, take, drop, Option, Some, None, ◌⊎◌, ⊎_elim, refl, ap, sym, ◌∙◌}
use Rattle.std.proofs.Common.{arith}
use Rattle.std.proofs.Math.Seq.{take-append-add, drop-append-add}
use Rattle.std.proofs.lemmas.Bool.{lt-ltb, le-ltb, ne_eqb}
use Rattle.std.proofs.lemmas.Bool.Decides.{nat_tests}
use Rattle.std.proofs.lemmas.List.{take_all, length-append, length-take, length-take-le, length-drop, append_assoc}
use Rattle.std.proofs.lemmas.List.{take-append-drop}
use Rattle.std.specs.Option.{option_or}
use Rattle.sec1_der.specs.Elements.{length_octets, element, IsHeader, IsConstructed}
use Rattle.sec1_der.specs.Errors.{IsHeaderFault}
use Rattle.sec1_der.specs.Faults.{nested_fault, Fault, end_fault, any_fault, forest_fault, tree_fault}
use Rattle.sec1_der.specs.Trees.{Tree, leaf, branch, none, first, bytes, size, IsTree, max_tree_depth}
use Rattle.sec1_der.specs.Walks.{Opens}
use Rattle.sec1_der.proofs.EnterLemmas.{Skips}
use Rattle.sec1_der.specs.declared.error.ErrorKind.{ErrorKind}
use Rattle.sec1_der.specs.declared.error.ErrorKind.TheVariants.{Depth}
use Rattle.sec1_der.proofs.FaultLaws.{any_at}

-- the content of a leaf isn't refused
pub leaf_passes : (f : Fault) (tag : ℕ) (content : List ℕ) → ¬ IsConstructed tag → nested_fault f tag content ≡ None
leaf_passes f tag content plain = grind (arith, nat_tests)

-- ---- a bound on the recursion

-- two faults of an element are the same if they agree on fewer bytes, inside it and after it
nested_alike : (f g h k : Fault) (tag : ℕ) (bytes : List ℕ)
    → ((content : List ℕ) → length content ≤ length bytes → f content ≡ h content)
    → ((rest : List ℕ) → length rest ≤ length bytes → g rest ≡ k rest)
    → any_fault (nested_fault f) g (tag ∷ bytes) ≡ any_fault (nested_fault h) k (tag ∷ bytes)
nested_alike f g h k tag bytes inside rest = grind (arith, length-take {A = ℕ}, length-drop {A = ℕ})

-- the fault of a row is the same by any bound on its bytes
forest_bound : (m n level : ℕ) (bytes : List ℕ) → length bytes ≤ m → length bytes ≤ n
    → forest_fault m level bytes ≡ forest_fault n level bytes
forest_bound zero zero level [] l r = refl
forest_bound zero (suc n) level [] l r = refl
forest_bound (suc m) zero level [] l r = refl
forest_bound (suc m) (suc n) level [] l r = refl
forest_bound zero n level (b ∷ bs) l r = absurd (omega arith)
forest_bound (suc m) zero level (b ∷ bs) l r = absurd (omega arith)
forest_bound (suc m) (suc n) level (b ∷ bs) l r =
    ap (λ fault. if nat_lt max_tree_depth level then Some (Some Depth) else fault)
    (nested_alike _ _ _ _ b bs (λ content few. forest_bound m n (level + 1) content (omega arith) (omega arith))
    (λ rest few. forest_bound m n level rest (omega arith) (omega arith)))

-- the elements in a row at this level
abbrev pub forest_at : ℕ → Fault
forest_at level bytes = forest_fault (length bytes) level bytes

-- a row within the greatest depth is its first element, and a row
pub forest_some : (level : ℕ) (bytes : List ℕ) → 0 < length bytes → level ≤ max_tree_depth
    → forest_at level bytes ≡ any_fault (nested_fault (forest_at (level + 1))) (forest_at level) bytes
forest_some level [] some fits = absurd (omega arith)
forest_some level (b ∷ bs) some fits =
    rw (le-ltb max_tree_depth level fits)
    (nested_alike _ _ _ _ b bs
    (λ content few. forest_bound (length bs) (length content) (level + 1) content (omega arith) (omega arith))
    (λ rest few. forest_bound (length bs) (length rest) level rest (omega arith) (omega arith)))

-- a row at level 65 is too deep
pub forest_deep : (level : ℕ) (bytes : List ℕ) → 0 < length bytes → level ≡ 65
    → forest_at level bytes ≡ Some (Some Depth)
forest_deep level [] some deep = absurd (omega arith)
forest_deep level (b ∷ bs) some deep = rw (lt-ltb max_tree_depth level (omega arith)) refl

-- the fault of the input is that of an element whose content is a row at level 2
pub tree_next : (input : List ℕ) → tree_fault input ≡ any_fault (nested_fault (forest_at 2)) end_fault input
tree_next [] = refl
tree_next (b ∷ bs) = nested_alike _ end_fault _ end_fault b bs
    (λ content few. forest_bound (suc (length bs)) (length content) 2 content (omega arith) (omega arith))
    (λ rest few. refl)

-- ---- what a walk has left

-- what is left, where these nodes are open
abbrev pub open_fault : List ℕ → Fault
open_fault [] rest = end_fault rest
open_fault (end ∷ ends) rest =
    option_or (forest_at (length ends + 2) (take (length rest - end) rest))
    (open_fault ends (drop (length rest - end) rest))

-- what is left, where an element has to be next
abbrev pub next_fault : List ℕ → Fault
next_fault [] rest = any_fault (nested_fault (forest_at 2)) end_fault rest
next_fault (end ∷ ends) rest =
    option_or (any_fault (nested_fault (forest_at (length ends + 2 + 1))) (forest_at (length ends + 2))
    (take (length rest - end) rest))
    (open_fault ends (drop (length rest - end) rest))

-- where an element is next, the fault is that of its content, or else of the bytes after it
next_element : (ends rest after : List ℕ) (tag : ℕ) (content : List ℕ) → IsHeader tag (length content)
    → rest ≡ element tag content ++ after
    → get_or ends 0 0 ≤ length after
    → next_fault ends rest ≡ option_or (nested_fault (forest_at (length ends + 2)) tag content) (open_fault ends after)
next_element [] rest after tag content h is fits =
    any_at (nested_fault (forest_at 2)) end_fault tag content rest after h is
next_element (end ∷ ends) rest after tag content h is fits =
    let e = element tag content in
    let n = length after - end in
    let room : length (e ++ after) - end ≡ length e + n = omega (arith, length-append e after) in
    let content_fault = nested_fault (forest_at (length ends + 2 + 1)) in
    let front = any_at content_fault (forest_at (length ends + 2)) tag content (e ++ take n after) (take n after) h
    refl in
    let level : length (end ∷ ends) + 2 ≡ length ends + 2 + 1 = omega arith in
    rw (level, is, room, take-append-add e after n, drop-append-add e after n, front)
    (or_assoc (content_fault tag content) (forest_at (length ends + 2) (take n after)) (open_fault ends (drop n after)))
  where
    or_assoc : (a b c : Option (Option ErrorKind)) → option_or (option_or a b) c ≡ option_or a (option_or b c)
    or_assoc a b c = grind arith

-- where an element without children was skipped, the fault is that of the bytes after it
pub element_passed : (ends rest after : List ℕ) → Skips ends rest after → next_fault ends rest ≡ open_fault ends after
element_passed ends rest after p = by p.0 p.1 p.2 p.4
  where
    by : (t : Tree) → IsTree t → size t ≡ 1 → rest ≡ bytes t ++ after → next_fault ends rest ≡ open_fault ends after
    by (leaf tag content) tree alone is =
        next_element ends rest after tag content (record { tag_byte = tree.0; bounded = tree.2 }) is p.5
        ∙ rw (leaf_passes (forest_at (length ends + 2)) tag content tree.1) refl
    by (branch tag none) tree alone is =
        next_element ends rest after tag [] (record { tag_byte = tree.0; bounded = tree.2 }) is p.5
        ∙ rw (ne_eqb (bit_and tag 0x20) 0 tree.1) refl
    by (branch tag (first (leaf tag' content) children)) tree alone is = absurd (omega (arith, alone))
    by (branch tag (first (branch tag' inside) children)) tree alone is = absurd (omega (arith, alone))

-- where a node with a content was opened, the fault is that of the bytes inside it and after it
pub node_opened : (ends rest after : List ℕ) (end : ℕ) → Opens ends rest end after
    → next_fault ends rest ≡ open_fault (end ∷ ends) after
node_opened ends rest after end o =
    let n = length after - end in
    let content = take n after in
    let count : length content ≡ o.n = omega (arith, length-take-le n after (omega arith), o.inside) in
    let is : IsHeader o.tag
    (length content) = record { tag_byte = o.tag_byte; bounded = omega (arith, count, o.bounded) } in
    let whole : rest ≡ element o.tag content ++ drop n after =
    rw (append_assoc (length_octets (length content)) content (drop n after), take-append-drop n after, count)
    o.split in
    next_element ends rest (drop n after) o.tag content is whole
    (omega (arith, length-drop n after, o.inside, o.fits))
    ∙ rw (ne_eqb (bit_and o.tag 0x20) 0 o.constructed) refl

-- where as many nodes are open as may be, a further one with a content is refused as too deep
next_deep : (ends rest after : List ℕ) (end : ℕ) → length ends ≡ max_tree_depth - 1 → Opens ends rest end after
    → next_fault ends rest ≡ Some (Some Depth)
next_deep ends rest after end full opens =
    let few = length-take-le (length after - end) after (omega arith) in
    node_opened ends rest after end opens
    ∙ rw (forest_deep (length ends + 2) (take (length after - end) after)
    (omega (arith, opens.some, opens.inside)) (omega (arith, full))) refl

-- what is next is refused as too deep, or by its own bytes
pub next_refused : (ends rest : List ℕ) (k : ErrorKind)
    → ((k ≡ Depth) × (length ends ≡ max_tree_depth - 1)
    × ((end : ℕ) × (after : List ℕ) × Opens ends rest end after))
    ⊎ (IsHeaderFault k × ((content : ℕ → Fault) (following : Fault)
    → any_fault content following (take (length rest - get_or ends 0 0) rest) ≡ Some (Some k)))
    → next_fault ends rest ≡ Some (Some k)
next_refused ends rest k kinds =
    ⊎_elim (λ deep. next_deep ends rest deep.2.1 deep.2.0 deep.1 deep.2.2 ∙ ap (λ j. Some (Some j)) (sym deep.0))
    (λ any. by ends any.1) kinds
  where
    by : (ends : List ℕ)
        → ((content : ℕ → Fault) (following : Fault)
        → any_fault content following (take (length rest - get_or ends 0 0) rest) ≡ Some (Some k))
        → next_fault ends rest ≡ Some (Some k)
    by [] any = rw (take_all (length rest - 0) rest (omega arith)) at any (nested_fault (forest_at 2)) end_fault
    by (end ∷ ends) any = rw (any (nested_fault (forest_at (length ends + 2 + 1))) (forest_at (length ends + 2))) refl
