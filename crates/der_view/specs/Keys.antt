-- Private keys that differ in their private bytes.
use Rattle.std.specs.Prelude.{◌≡◌, ◌<◌, ◌≤◌, ◌⊎◌, ◌==◌, ◌&&◌, ◌||◌, not, nat_lt, ℕ, ◌-◌, ◌%◌, Bool}
use Rattle.std.specs.Prelude.{true, List, [], ◌∷◌, ◌++◌, length, drop, min}
use Rattle.sec1_der.specs.Elements.{element, header}
use Rattle.der_view.specs.Headers.{max_content_len}
use Rattle.der_view.specs.Masks.{AreAlike}

-- an element: its tag and its content
abbrev pub Part : Type 0
Part = ℕ × List ℕ

-- elements in DER, one after the other, and the bytes after them
abbrev pub parts_before : List Part → List ℕ → List ℕ
parts_before [] rest = rest
parts_before (part ∷ parts) rest = element part.0 part.1 ++ parts_before parts rest

-- the elements before an element, its tag, and the bytes after it
pub record Level : Type 0 where
  pub before : List Part
  pub tag : ℕ
  pub after : List ℕ

-- Inside elements, from the outermost one: elements, the header of a private element of n bytes,
-- and the bytes after this header.
abbrev pub key_in : List Level → List Part → ℕ → ℕ → List ℕ → List ℕ
key_in [] before tag n x = parts_before before (header tag n ++ x)
key_in (level ∷ levels) before tag n x =
    parts_before level.before (element level.tag (key_in levels before tag n x) ++ level.after)

-- These differ in the first n bytes alone, and may end in them.
pub record DifferIn (n : ℕ) (x y : List ℕ) : Type 0 where
  pub few : n ≤ max_content_len
  pub len : length x ≡ length y
  pub after : drop n x ≡ drop n y

-- In a SEQUENCE whose header says m bytes a private element as above, and the bytes after it all.
unfoldable pub key_bytes : ℕ → List Level → List Part → ℕ → ℕ → List ℕ → List ℕ → List ℕ
key_bytes m levels before tag n x rest = header 0x30 m ++ (key_in levels before tag n x ++ rest)

-- All of the m bytes are there, or the input ends before.
pub record IsContent (m : ℕ) (content rest : List ℕ) : Type 0 where
  pub few : m ≤ max_content_len
  pub there : (length content ≡ m) ⊎ ((length content ≤ m) × (rest ≡ []))

-- X.690 section 8.1.2: a tag in one byte, which isn't reserved
abbrev pub is_low : ℕ → Bool
is_low tag = not (tag == 0x00 || tag == 0x20) && nat_lt (tag % 0x20) 0x1F

abbrev pub AreParts : List Part → Type 0
AreParts [] = Unit {0}
AreParts (part ∷ parts) =
    (is_low part.0 ≡ true) × (length part.1 ≤ max_content_len) × AreParts parts

-- elements in elements, whose lengths are within the limit
abbrev pub AreLevels : List Level → List Part → ℕ → ℕ → List ℕ → Type 0
AreLevels [] before tag n x = AreParts before × (is_low tag ≡ true)
AreLevels (level ∷ levels) before tag n x =
    AreParts level.before × (is_low level.tag ≡ true)
    × (length (key_in levels before tag n x) ≤ max_content_len) × AreLevels levels before tag n x

-- Inputs that differ in such a private element alone have the same masks.
abbrev pub AreUnseen : ℕ → List Level → List Part → ℕ → ℕ → List ℕ → List ℕ → List ℕ → Type 0
AreUnseen m levels before tag n x y rest =
    DifferIn n x y → IsContent m (key_in levels before tag n x) rest
    → AreAlike (key_bytes m levels before tag n x rest) (key_bytes m levels before tag n y rest)

-- RFC 8017 appendix A.1.2: INTEGERs with these contents
abbrev pub integers : List (List ℕ) → List Part
integers [] = []
integers (number ∷ numbers) = (0x02, number) ∷ integers numbers

-- RFC 5958 section 2: the version and the algorithm before a privateKey
abbrev pub container_parts : List ℕ → List ℕ → List Part
container_parts version algorithm = (0x02, version) ∷ (0x30, algorithm) ∷ []

-- a privateKey after them
abbrev pub container : List ℕ → List ℕ → List ℕ → Level
container version algorithm after =
    record { before = container_parts version algorithm; tag = 0x04; after = after }

-- a SEQUENCE alone
abbrev pub sequence : Level
sequence = record { before = []; tag = 0x30; after = [] }

-- A content has the first n bytes, or all if they are fewer, of the header of an element of k bytes
-- and of these after it: all of the header, but not all of the element.
pub record IsCutIn (n tag k : ℕ) (x : List ℕ) : Type 0 where
  pub low : is_low tag ≡ true
  pub few : k ≤ max_content_len
  pub begins : length (header tag k) ≤ n
  pub ends : min (n - length (header tag k)) (length x) < k
