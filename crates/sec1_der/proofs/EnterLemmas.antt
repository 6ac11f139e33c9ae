-- The next element in a slice whose last bytes belong to outer nodes.
use Rattle.std.proofs.Common.{◌≡◌, ℕ, ◌+◌, ◌-◌, ◌<◌, ◌≤◌, List, ◌++◌, length, take, drop, bit_and, ◌⊎◌, refl, ap, sym}
use Rattle.std.proofs.Common.{get_or, ◌∙◌, arith, rules, ⊎_elim}
use Rattle.std.proofs.lemmas.Bool.{cases_eq}
use Rattle.std.proofs.lemmas.List.{append_assoc, length-append, length-drop, length-take, length-take-le}
use Rattle.std.proofs.lemmas.List.{take-append-drop, take_rest, drop_at, nil_from_length}
use Rattle.sec1_der.specs.Elements.{IsHeader, header, element, IsConstructed}
use Rattle.sec1_der.specs.Trees.{Tree, leaf, branch, none, bytes, IsTree, size, depth}
use Rattle.sec1_der.specs.Walks.{Opens}

-- The next element is a leaf or an empty node, and ends within the innermost node.
abbrev pub Skips : List ℕ → List ℕ → List ℕ → Type 0
Skips ends rest after =
    (t : Tree) × IsTree t × (size t ≡ 1) × (depth t ≡ 1) × (rest ≡ bytes t ++ after) × (get_or ends 0 0 ≤ length after)

-- The slice begins with a header, then bytes with room for its content, then the last bytes.
abbrev pub IsInFront : List ℕ → List ℕ → ℕ → ℕ → ℕ → Type 0
IsInFront rest inside tag n end =
    IsHeader tag n × (take (length rest - end) rest ≡ header tag n ++ inside) × (n ≤ length inside)

-- what is inside is no longer than all before the end
pub inside_within : (rest front inside : List ℕ) (room : ℕ) → take room rest ≡ front ++ inside → length inside ≤ room
inside_within rest front inside room e = omega (arith, ap length e, length-append front inside, length-take room rest)

-- if the input up to `end` is `front ++ inside`, then what is left from `start` on is `inside` and the last `end` bytes
from_start : (rest front inside : List ℕ) (end start : ℕ) → end ≤ length rest
    → take (length rest - end) rest ≡ front ++ inside
    → start + length inside ≡ length rest - end
    → (rest ≡ front ++ take (length rest - start) (drop start rest))
    × (length (take (length rest - start) (drop start rest)) ≡ length inside + end)
from_start rest front inside end start within e l =
    let room = length rest - end in
    let split : rest ≡ front ++ (inside ++ drop room rest) =
    sym (take-append-drop room rest)
    ∙ (ap (λ xs. xs ++ drop room rest) e ∙ append_assoc front inside (drop room rest)) in
    let count : length front
    ≡ start = omega (arith, ap length e, length-append front inside, length-take-le room rest (omega arith)) in
    let after = take_rest rest start
    ∙ (ap (drop start) split ∙ drop_at front (inside ++ drop room rest) start count) in (
      split ∙ ap (λ xs. front ++ xs) (sym after),
      omega (arith, length-take (length rest - start) (drop start rest), length-drop start rest),
    )

-- the header of a node with a content
pub opens_at : (rest inside ends : List ℕ) (tag n end m : ℕ) → IsInFront rest inside tag n end → end ≡ get_or ends 0 0
    → m ≡ n → 0 < n
    → IsConstructed tag
    → Opens ends rest (end + length inside - m)
    (take (length rest - (length rest - end - length inside)) (drop (length rest - end - length inside) rest))
opens_at rest inside ends tag n end m f is same some constructed =
    let few = inside_within rest (header tag n) inside (length rest - end) f.1 in
    let within : end ≤ length rest = omega (arith, ap length f.1, length-take (length rest - end) rest) in
    let (split, after) = from_start rest (header tag n) inside end (length rest - end - length inside) within f.1
    (omega arith) in
    search (rules, arith)

-- a leaf or an empty node with these bytes
single_tree : (tag : ℕ) (content : List ℕ) → IsHeader tag (length content) → ¬ IsConstructed tag ⊎ (length content ≡ 0)
    → (t : Tree) × IsTree t × (size t ≡ 1) × (depth t ≡ 1) × (bytes t ≡ element tag content)
single_tree tag content h which = ⊎_elim
    (λ (plain : bit_and tag 32 ≡ 0).
    (leaf tag content, (h.tag_byte, λ set. set plain, h.bounded), refl, refl, refl))
    (λ set. let empty = nil_from_length content (⊎_elim (λ plain. absurd (plain set)) (λ none. none) which) in
    (branch tag none, (h.tag_byte, set, omega arith, tt), refl, refl, rw empty refl))
    (cases_eq (bit_and tag 32) 0)

-- an element without children
pub passes_at : (rest inside ends : List ℕ) (tag n end m : ℕ) → IsInFront rest inside tag n end
    → end ≡ get_or ends 0 0 → m ≡ n
    → ¬ IsConstructed tag ⊎ (n ≡ 0)
    → Skips ends rest (take (length rest - (length rest - end - length inside + m))
    (drop (length rest - end - length inside + m) rest))
passes_at rest inside ends tag n end m f is same which =
    let content = take n inside in
    let size : length content ≡ n = length-take-le n inside f.2 in
    let t = single_tree tag content (rw size f.0) (rw size which) in
    let split : header tag n ++ inside ≡ element tag content ++ drop n inside =
    rw (size, append_assoc (header tag n) content (drop n inside), take-append-drop n inside) refl in
    let few = inside_within rest (header tag n) inside (length rest - end) f.1 in
    let within : end ≤ length rest = omega (arith, ap length f.1, length-take (length rest - end) rest) in
    let (split, after) = from_start rest (element tag content) (drop n inside) end
    (length rest - end - length inside + m) within (f.1 ∙ split)
    (omega (arith, length-drop n inside)) in
    (t.0, t.1, t.2, t.3, rw (t.4) split, omega (arith, after))
