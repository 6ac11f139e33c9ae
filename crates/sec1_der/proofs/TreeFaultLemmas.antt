-- What the bytes of trees are refused by.
use Rattle.std.proofs.Common.{◌≡◌, ℕ, ◌+◌, ◌<◌, ◌≤◌, max, nat_lt, if◌then◌else◌, List, [], ◌++◌, Option, Some, None}
use Rattle.std.proofs.Common.{Result, Ok, Err, MatchResult, bit_and, refl, ap, sym, ◌∙◌, arith, ⊎_elim}
use Rattle.std.proofs.lemmas.Bool.{lt-ltb, le-ltb, ne_eqb, cases_lt}
use Rattle.std.proofs.lemmas.Bool.Decides.{nat_tests}
use Rattle.std.proofs.lemmas.List.{append-nil, length-append}
use Rattle.std.specs.Option.{option_or}
use Rattle.sec1_der.specs.Elements.{IsProperPrefix}
use Rattle.sec1_der.specs.Faults.{Fault, HasFault, nested_fault, end_fault, any_fault, tree_fault}
use Rattle.sec1_der.specs.Trees.{Tree, leaf, branch, Forest, none, first, bytes, joined, IsTree, AreTrees, IsTreeOf}
use Rattle.sec1_der.specs.Trees.{size, depth, max_tree_depth}
use Rattle.sec1_der.specs.declared.error.Error.{Error}
use Rattle.sec1_der.specs.declared.error.ErrorKind.{ErrorKind}
use Rattle.sec1_der.specs.declared.error.ErrorKind.TheVariants.{Truncated, Depth}
use Rattle.sec1_der.proofs.CheckLemmas.{IsCounted}
use Rattle.sec1_der.proofs.ElementFaultLemmas.{any_cut}
use Rattle.sec1_der.proofs.FaultLaws.{any_at}
use Rattle.sec1_der.proofs.TreeLemmas.{max_depth, some_bytes, tree_apart}
use Rattle.sec1_der.proofs.ForestFaultLemmas.{leaf_passes, forest_at, forest_some, forest_deep, tree_next}

-- the fault of trees with this number of levels
abbrev deep_fault : ℕ → Option (Option ErrorKind)
deep_fault level = if nat_lt max_tree_depth level then Some (Some Depth) else None

-- of two depths below a level the greater one counts
deep_or : (above a b : ℕ) → option_or (deep_fault (above + a)) (deep_fault (above + b)) ≡ deep_fault (above + max a b)
deep_or above a b = grind (arith, nat_tests)

mutual
  -- a tree `above` levels down is refused by its depth, or by what follows it
  tree_at : (t : Tree) (above : ℕ) (after : Fault) (bs rest : List ℕ) → IsTree t → bs ≡ bytes t ++ rest
      → above < max_tree_depth
      → any_fault (nested_fault (forest_at (above + 1 + 1))) after bs ≡ option_or (deep_fault (above + depth t))
      (after rest)
  tree_at (leaf tag content) above after bs rest is e fits =
      any_at _ after tag content bs rest (record { tag_byte = is.0; bounded = is.2 }) e
      ∙ rw (
        leaf_passes (forest_at (above + 1 + 1)) tag content is.1,
        le-ltb max_tree_depth (above + 1) (omega arith),
      ) refl
  tree_at (branch tag f) above after bs rest is e fits =
      any_at _ after tag (joined f) bs rest (record { tag_byte = is.0; bounded = is.2 }) e
      ∙ rw (ne_eqb (bit_and tag 0x20) 0 is.1, trees_at f (above + 1) is.3 (omega arith))
      (ap (λ n. option_or (deep_fault n) (after rest)) (omega arith))

  -- trees in a row, below this number of levels
  trees_at : (f : Forest) (above : ℕ) → AreTrees f → above ≤ max_tree_depth
      → forest_at (above + 1) (joined f) ≡ deep_fault (above + max_depth f)
  trees_at none above are fits = rw (le-ltb max_tree_depth (above + 0) (omega arith)) refl
  trees_at (first t f) above are fits =
      let all = bytes t ++ joined f in
      let some = some_bytes t in
      let lengths = length-append (bytes t) (joined f) in
      ⊎_elim
      (λ l. forest_some (above + 1) all (omega arith) (omega arith)
      ∙ (tree_at t above (forest_at (above + 1)) all (joined f) are.0 refl l
      ∙ rw (trees_at f above are.1 fits)
      (deep_or above (depth t) (max_depth f) ∙ ap deep_fault (omega arith))))
      (λ l. forest_deep (above + 1) all (omega arith) (omega arith)
      ∙ rw (lt-ltb max_tree_depth (above + max_depth (first t f)) (omega arith)) refl)
      (cases_lt above max_tree_depth)

-- the fault of a tree and of what follows it
tree_faults : (t : Tree) (input rest : List ℕ) → IsTree t → input ≡ bytes t ++ rest
    → tree_fault input ≡ option_or (deep_fault (depth t)) (end_fault rest)
tree_faults t input rest is e =
    tree_next input ∙ (tree_at t 0 end_fault input rest is e (omega arith)
    ∙ ap (λ n. option_or (deep_fault n) (end_fault rest)) (omega arith))

-- a tree that is too deep
pub deep_tree : (t : Tree) (input : List ℕ) → IsTreeOf t input → max_tree_depth < depth t
    → tree_fault input ≡ Some (Some Depth)
deep_tree t input h deep =
    tree_faults t input [] h.tree (h.whole ∙ sym (append-nil (bytes t)))
    ∙ rw (lt-ltb max_tree_depth (depth t) deep) refl

-- another tree, and what follows it
pub shallow_tree : (t : Tree) (input rest : List ℕ) → IsTree t → depth t ≤ max_tree_depth → input ≡ bytes t ++ rest
    → tree_fault input ≡ end_fault rest
shallow_tree t input rest is shallow e =
    tree_faults t input rest is e ∙ rw (le-ltb max_tree_depth (depth t) shallow) refl

-- a truncated tree
pub cut_tree : (t : Tree) (input : List ℕ) → IsTree t → IsProperPrefix input (bytes t)
    → tree_fault input ≡ Some (Some Truncated)
cut_tree (leaf tag content) input is cut =
    any_cut _ end_fault tag content input (record { tag_byte = is.0; bounded = is.2 }) cut
cut_tree (branch tag f) input is cut =
    any_cut _ end_fault tag (joined f) input (record { tag_byte = is.0; bounded = is.2 }) cut

-- a count of a tree's elements
pub counted : (result : Result ℕ Error) (input : List ℕ) (t : Tree)
    → (P : Error → Type 0) → MatchResult result (IsCounted input) P → HasFault result (tree_fault input)
    → IsTreeOf t input → depth t ≤ max_tree_depth → result ≡ Ok (size t)
counted (Ok n) input t P found h is shallow =
    let same = tree_apart found.0 t [] [] found.1.tree is.tree (cc (found.1.whole, is.whole)) in
    cc (found.3, same.0)
counted (Err error) input t P found h is shallow =
    absurd (rw (shallow_tree t input [] is.tree shallow (is.whole ∙ sym (append-nil (bytes t)))) at h)
