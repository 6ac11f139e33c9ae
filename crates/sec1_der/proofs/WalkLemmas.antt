-- The table of the ends of open nodes.
use Rattle.std.proofs.Common.{◌≡◌, ℕ, zero, suc, ◌<◌, List, ◌∷◌, length, set, refl, ap, arith}
use Rattle.std.proofs.lemmas.List.{get_or-set_same, get_or-set_other}
use Rattle.sec1_der.specs.Walks.{open_ends}

-- there are as many ends as levels
pub length_open_ends : (level : ℕ) (table : List ℕ) → length (open_ends level table) ≡ level
length_open_ends zero table = refl
length_open_ends (suc level) table = ap suc (length_open_ends level table)

-- an end that is set further out is none of these
open_ends-set : (level at end : ℕ) (table : List ℕ) → level < at
    → open_ends level (set table at end) ≡ open_ends level table
open_ends-set zero at end table l = refl
open_ends-set (suc level) at end table l =
    cc (get_or-set_other table at (suc level) end 0 (omega arith), open_ends-set level at end table (omega arith))

-- the end of one more node is set
pub open_ends_opened : (level end : ℕ) (table : List ℕ) → suc level < length table
    → open_ends (suc level) (set table (suc level) end) ≡ end ∷ open_ends level table
open_ends_opened level end table room =
    cc (get_or-set_same table (suc level) end 0 room, open_ends-set level (suc level) end table (omega arith))

-- by these, the table has one end more
pub ruleset opened_ends = (open_ends_opened, length_open_ends)
