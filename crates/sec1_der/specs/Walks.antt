-- One step of a walk over the bytes of a tree. The open nodes are known by how many bytes are left
-- where each ends, the innermost first; 0 are left at the end of the input.
use Rattle.std.specs.Prelude.{IsTrue, ◌≡◌, ℕ, zero, suc, ◌+◌, ◌<◌, ◌≤◌, List, [], ◌∷◌, ◌++◌, length}
use Rattle.std.specs.Prelude.{get_or}
use Rattle.sec1_der.specs.Elements.{header, is_tag, IsConstructed, max_length}

-- the next element is a node that isn't empty, and has this end, within the innermost node
pub record Opens (ends rest : List ℕ) (end : ℕ) (after : List ℕ) : Type 0 where
  pub tag : ℕ
  pub n : ℕ
  pub fits : get_or ends 0 0 ≤ end
  pub tag_byte : IsTrue (is_tag tag)
  pub constructed : IsConstructed tag
  pub some : 0 < n
  pub bounded : n ≤ max_length
  pub split : rest ≡ header tag n ++ after
  pub inside : end + n ≡ length after

-- the ends of the open elements up to this level, the innermost first; the table has the outermost
-- at index 1
abbrev pub open_ends : ℕ → List ℕ → List ℕ
open_ends zero table = []
open_ends (suc level) table = get_or table (suc level) 0 ∷ open_ends level table
