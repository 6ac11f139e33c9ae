-- What is told of the picture of an input.
use Rattle.std.specs.Prelude.{◌≡◌, ◌≢◌, ◌≤◌, ◌<◌, ◌-◌, ◌^◌, ◌==◌, ◌++◌, [], ◌∷◌, ℕ, List, length}
use Rattle.std.specs.Prelude.{drop, min, take, if◌then◌else◌}
use Rattle.std.specs.List.{flat_map}
use Rattle.der_view.specs.Drawings.{has_key}
use Rattle.der_view.specs.Printing.{Told}
use Rattle.der_view.specs.declared.output.PictureLine.{PictureLine}
use Rattle.der_view.specs.declared.output.TheConstants.{CONTENT}
use Rattle.sec1_c.specs.declared.picture.filling.Filling.{Filling}

-- the number of items, and a slice whose first elements are the items, as many as it has room for;
-- the others are as they were
pub record AreStored {A : Type 0} (old new : List A) (count : ℕ) (items : List A) : Type 0 where
  pub count_is : count ≡ min (length items) (2 ^ 64 - 1)
  pub stored : new ≡ take (length old) items ++ drop (length items) old

-- where items are stored, these are stored after them
abbrev pub Fills : {A : Type 0} → List A → ℕ → List A → ℕ → List A → Type 0
Fills old old_count new new_count items =
    (first : List _) → (before : List _)
    → AreStored first old old_count before → AreStored first new new_count (before ++ items)

-- 1 if some part of an input is a key, and otherwise 0
abbrev pub key_number : List ℕ → ℕ
key_number input = if has_key input then 1 else 0

-- The length of the text is stored. If it fits, it is written at the beginning of the buffer, 0 is
-- returned, and this number is stored. If the buffer is too short, it is unchanged, 7 is returned,
-- and 0 is stored.
pub record IsDrawn (text : List ℕ) (key : ℕ) (old new : List ℕ) (result len is_key : ℕ)
    : Type 0 where
  pub len_is : len ≡ min (length text) (2 ^ 64 - 1)
  pub fits : length text ≤ length old → (result ≡ 0) × (new ≡ text ++ drop len old) × (is_key ≡ key)
  pub short : length old < length text → (result ≡ 7) × (new ≡ old) × (is_key ≡ 0)

-- Some text is stored: so many bytes at the beginning of the buffer, if 0 is returned. Otherwise 7
-- is, the buffer is unchanged, and 0 is stored for a key.
pub record IsStored (old new : List ℕ) (result len is_key : ℕ) : Type 0 where
  pub fits : result ≡ 0 → (len ≤ length old) × (drop len new ≡ drop len old)
  pub short : result ≢ 0 → (result ≡ 7) × (new ≡ old) × (is_key ≡ 0)

-- what the lines of a picture are of, but those with contents
abbrev pub listed : List Told → List PictureLine
listed lines = flat_map (λ line. if line.0.kind == CONTENT then [] else line.0 ∷ []) lines

-- the second has these too
pub record Grows (a b : Filling PictureLine) (lines : List PictureLine) : Type 0 where
  pub place : b.slice.ghost_name ≡ a.slice.ghost_name
  pub fills : Fills a.slice.now a.count b.slice.now b.count lines

-- Lines are stored, as many as there is room for, and their number. 0 is returned if all are
-- stored, otherwise 7.
pub record AreListed (lines old new : List PictureLine) (result count : ℕ) : Type 0 where
  pub stored : AreStored old new count lines
  pub fits : length lines ≤ length old → result ≡ 0
  pub short : length old < length lines → result ≡ 7
