-- What a call does to the buffer that it writes into, and to the length that it stores.
use Rattle.std.specs.Prelude.{◌≡◌, ℕ, ◌≤◌, ◌<◌, List, [], ◌∷◌, ◌++◌, length, drop}
use Rattle.std.specs.Prelude.{Option, Some, None}

-- a text, and the byte 0 that ends it in C
abbrev pub ended : List ℕ → List ℕ
ended text = text ++ 0 ∷ []

-- The length of the bytes is stored, and they are written at the beginning of the buffer if they
-- fit. A buffer that is too short is unchanged, and the number 7 is returned.
pub record Writes (bytes old new : List ℕ) (result stored : ℕ) : Type 0 where
  pub len : stored ≡ length bytes
  pub fits : length bytes ≤ length old → (result ≡ 0) × (new ≡ bytes ++ drop (length bytes) old)
  pub short : length old < length bytes → (result ≡ 7) × (new ≡ old)

-- The length of the bytes is stored, and the number 0 is returned.
pub record StoresLength (bytes : List ℕ) (result stored : ℕ) : Type 0 where
  pub number : result ≡ 0
  pub len : stored ≡ length bytes

-- This number is returned, and the buffer and the length are unchanged.
pub record WritesNothing (number : ℕ) (old new : List ℕ) (result len_old len_new : ℕ) : Type 0 where
  pub number_is : result ≡ number
  pub buffer : new ≡ old
  pub len : len_new ≡ len_old

-- The bytes are written. If there are none, since a content is longer than an element's can be,
-- nothing is written, and the number 6 is returned.
abbrev pub WritesIfAny : Option (List ℕ) → List ℕ → List ℕ → ℕ → ℕ → ℕ → Type 0
WritesIfAny None old new result len_old len_new = WritesNothing 6 old new result len_old len_new
WritesIfAny (Some bytes) old new result len_old len_new = Writes bytes old new result len_new
