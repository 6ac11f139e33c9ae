-- The states of the walk over a tree's bytes, and its steps.
use Rattle.std.proofs.Common.{◌≡◌, ◌≢◌, ℕ, suc, ◌+◌, ◌-◌, ◌<◌, ◌≤◌, List, [], ◌∷◌, ◌++◌, length, take, drop, refl, ap}
use Rattle.std.proofs.Common.{get_or, ◌⊎◌, sym, ◌∙◌, subst, arith, rules, ⊎_elim}
use Rattle.std.proofs.lemmas.List.{append_assoc, append-nil, length-append, length-take-le}
use Rattle.sec1_der.specs.Elements.{header}
use Rattle.sec1_der.specs.Faults.{tree_fault}
use Rattle.sec1_der.specs.Trees.{Tree, branch, Forest, none, first, bytes, joined, IsTree, AreTrees, IsTreeOf, size}
use Rattle.sec1_der.specs.Trees.{depth, max_tree_depth}
use Rattle.sec1_der.specs.Walks.{Opens}
use Rattle.sec1_der.proofs.EnterLemmas.{Skips}
use Rattle.sec1_der.proofs.TreeLemmas.{some_bytes, total_size, max_depth}
use Rattle.sec1_der.proofs.ForestFaultLemmas.{forest_some, tree_next, open_fault, next_fault, element_passed}
use Rattle.sec1_der.proofs.ForestFaultLemmas.{node_opened}

-- ---- what is left makes the input a tree

-- the input is a tree of this number of elements
abbrev pub IsCounted : List ℕ → ℕ → Type 0
IsCounted input n = (t : Tree) × IsTreeOf t input × (depth t ≤ max_tree_depth) × (size t ≡ n)

-- Trees that end the innermost node, and then those that end the nodes around it, make the input a tree, with the
-- elements that were read.
abbrev pub Completes : List ℕ → List ℕ → List ℕ → ℕ → Type 0
Completes input [] rest count = rest ≡ [] → IsCounted input count
Completes input (end ∷ ends) rest count =
    (f : Forest) (tail : List ℕ) → AreTrees f → suc (length ends) + max_depth f ≤ max_tree_depth
    → rest ≡ joined f ++ tail → length tail ≡ end → Completes input ends tail (count + total_size f)

-- ---- the states

-- each open node ends within the one around it
abbrev pub Nested : List ℕ → Type 0
Nested [] = Unit {0}
Nested (end ∷ ends) = (get_or ends 0 0 ≤ end) × Nested ends

-- where the walk is in the input
pub record IsAt (input ends rest : List ℕ) (count : ℕ) : Type 0 where
  pub room : length ends ≤ max_tree_depth - 1
  pub counted : count + length rest ≤ length input
  pub inside : get_or ends 0 0 ≤ length rest
  pub nested : Nested ends

-- This number of elements was read. What is left completes the input, or is refused as the input is.
pub record Walks (input ends rest : List ℕ) (count : ℕ) : Type 0 where
  pub at : IsAt input ends rest count
  pub completes : Completes input ends rest count
  pub fault_is : tree_fault input ≡ open_fault ends rest

-- The same if an element has to be next: with a tree next, and what ends the open nodes after it, the input is a tree.
pub record IsNext (input ends rest : List ℕ) (count : ℕ) : Type 0 where
  pub at : IsAt input ends rest count
  pub completes : (t : Tree) (tail : List ℕ) → IsTree t → length ends + depth t ≤ max_tree_depth
      → rest ≡ bytes t ++ tail → Completes input ends tail (count + size t)
  pub fault_is : tree_fault input ≡ next_fault ends rest

-- ---- the steps

-- in all of the input the root is next
pub root_next : (input old : List ℕ) → old ≡ [] → IsNext input old input 0
root_next input old empty = rw empty (record {
  at = record { room = omega arith; counted = omega arith; inside = omega arith; nested = tt };
  completes = λ t tail is shallow split nothing.
      (t, record { tree = is; whole = split ∙ rw nothing (append-nil (bytes t)) }, omega arith, omega arith);
  fault_is = tree_next input;
})

-- inside a node that hasn't ended an element is next
pub child_next : {input ends rest : List ℕ} {count : ℕ} → Walks input ends rest count → ends ≢ []
    → length rest ≢ get_or ends 0 0 → IsNext input ends rest count
child_next {ends = []} w some apart = absurd (some refl)
child_next {input = input} {ends = end ∷ ends} {rest = rest} w some apart =
    let at = w.at in
    let lengths = length-take-le (length rest - end) rest (omega arith) in
    record {
      at = at;
      completes = λ t tail is shallow split f tail' are shallow' split' e. subst (Completes input ends tail')
          (omega arith)
          (w.completes (first t f) tail' (is, are) (omega arith)
          (split ∙ rw split' (sym (append_assoc (bytes t) (joined f) tail'))) e);
      fault_is = w.fault_is
          ∙ rw (forest_some (length ends + 2) (take (length rest - end) rest) (omega arith) (omega arith)) refl;
    }

-- the walk continues after an element without children
passed : (input ends rest after : List ℕ) (count : ℕ) → IsNext input ends rest count → Skips ends rest after
    → Walks input ends after (count + 1)
passed input ends rest after count next p =
    let at = next.at in
    let some = some_bytes p.0 in
    let lengths = ap length p.4 ∙ length-append (bytes p.0) after in
    record {
      at = search (rules, arith);
      completes = subst (Completes input ends after) (omega arith)
          (next.completes p.0 after p.1 (omega (arith, p.3)) p.4);
      fault_is = next.fault_is ∙ element_passed ends rest after p;
    }

-- the walk continues inside a node with a content, where there is room for one more
opened : (input ends rest after : List ℕ) (end count : ℕ) → IsNext input ends rest count → Opens ends rest end after
    → length ends < max_tree_depth - 1
    → Walks input (end ∷ ends) after (count + 1)
opened input ends rest after end count next o room =
    let at = next.at in
    let lengths = ap length o.split ∙ length-append (header o.tag o.n) after in
    record {
      at = search (rules, arith);
      completes = λ f tail are shallow split e.
          let n : length (joined f) ≡ o.n = omega (arith, o.inside, ap length split, length-append (joined f) tail) in
          let is : IsTree (branch o.tag f) =
          (o.tag_byte, o.constructed, omega (arith, o.bounded), are) in
          let whole = o.split
          ∙ rw (← n, split) (sym (append_assoc (header o.tag (length (joined f))) (joined f) tail)) in
          subst (Completes input ends tail) (omega arith) (next.completes (branch o.tag f) tail is (omega arith) whole);
      fault_is = next.fault_is ∙ node_opened ends rest after end o;
    }

-- the next element is skipped, or is opened if one more node may be open
abbrev Enters : List ℕ → List ℕ → List ℕ → List ℕ → Type 0
Enters ends rest ends' after =
    (Skips ends rest after × (ends' ≡ ends))
    ⊎ ((end : ℕ) × Opens ends rest end after × (ends' ≡ end ∷ ends)
    × (length ends < max_tree_depth - 1))

-- the walk continues where an element was skipped or opened
pub entered : {input ends rest ends' after : List ℕ} {count : ℕ} → IsNext input ends rest count
    → Enters ends rest ends' after
    → Walks input ends' after (count + 1)
entered next e = ⊎_elim (λ p. rw (p.1) (passed _ _ _ _ _ next p.0)) (λ o. rw (o.2) (opened _ _ _ _ _ _ next o.1 o.3)) e

-- the walk continues where a node has ended
pub closed : {input ends ends' rest : List ℕ} {count : ℕ} → Walks input ends rest count → ends ≢ []
    → ends' ≡ drop 1 ends → length rest ≡ get_or ends 0 0
    → Walks input ends' rest count
closed {ends = []} w some is e = absurd (some refl)
closed {input = input} {ends = end ∷ ends} {rest = rest} {count = count} w some is e =
    let at = w.at in
    let all : length rest - end ≡ 0 = omega arith in
    rw is (record {
      at = search (rules, arith);
      completes = subst (Completes input ends rest) (omega arith) (w.completes none rest tt (omega arith) refl e);
      fault_is = w.fault_is ∙ rw all refl;
    })

-- a tree was read, and nothing is after it
pub tree_read : {input ends rest : List ℕ} {count : ℕ} → Walks input ends rest count → ends ≡ [] → rest ≡ []
    → IsCounted input count
tree_read {ends = []} w empty nothing = w.completes nothing
tree_read {ends = end ∷ ends} w empty nothing = absurd (cc empty)
