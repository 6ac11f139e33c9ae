-- The report on an input: its text, and the status that the program ends with.
use Rattle.std.specs.Prelude.{◌≡◌, ℕ, ◌<◌, ◌≤◌, ◌⊎◌, List, [], ◌∷◌, ◌++◌, Option, Some, None}
use Rattle.std.specs.Prelude.{MatchResult, Bool, ◌==◌, ◌||◌, not, filter, length, codes}
use Rattle.std.specs.Fmt.{decimal}
use Rattle.hex.specs.Hex.{decode_of, encode_upper}
use Rattle.sec1.specs.Keys.{Key, IsKeyOf}
use Rattle.sec1.specs.Der.{dotted, Tree, IsTreeOf, depth, size, max_tree_depth}
use Rattle.sec1.specs.Points.{Point, IsPoint, IsEncoding, encoding}
use Rattle.sec1.specs.Tags.{point_tag}
use Rattle.sec1.specs.declared.point.tag.Tag.{Tag}
use Rattle.sec1.specs.declared.point.tag.Tag.TheVariants.{Identity, CompressedEvenY, CompressedOddY}
use Rattle.sec1.specs.declared.point.tag.Tag.TheVariants.{Uncompressed, Compact, HybridEvenY}
use Rattle.sec1.specs.declared.point.tag.Tag.TheVariants.{HybridOddY}

-- the greatest length of an input in bytes
abbrev pub limit : ℕ
limit = 1048576

-- a space, a tab, a carriage return or a line feed
abbrev pub is_blank : ℕ → Bool
is_blank byte = byte == 0x20 || byte == 0x09 || byte == 0x0D || byte == 0x0A

-- the input with no blank in it
abbrev pub stripped : List ℕ → List ℕ
stripped input = filter (λ byte. not (is_blank byte)) input

-- the dotted text of the curve's identifier, if present
abbrev pub parameters_words : Option (List ℕ) → List ℕ
parameters_words None = codes "none"
parameters_words (Some arcs) = dotted arcs

-- the upper hexadecimal of the public key, if present and not empty
abbrev pub public_key_words : Option (List ℕ) → List ℕ
public_key_words None = codes "none"
public_key_words (Some []) = codes "empty"
public_key_words (Some (byte ∷ bytes)) = encode_upper (byte ∷ bytes)

-- the words for a point with this tag, and the size of its field in bytes
abbrev pub tag_words : ℕ → Tag → List ℕ
tag_words size Identity = codes "identity"
tag_words size CompressedEvenY = codes "compressed even " ++ decimal size
tag_words size CompressedOddY = codes "compressed odd " ++ decimal size
tag_words size Uncompressed = codes "uncompressed " ++ decimal size
tag_words size Compact = codes "compact " ++ decimal size
tag_words size HybridEvenY = codes "hybrid even " ++ decimal size
tag_words size HybridOddY = codes "hybrid odd " ++ decimal size

-- the words for the point that these bytes encode at this size
pub record IsPointText (size : ℕ) (bytes text : List ℕ) : Type 0 where
  pub point : Point
  pub fits : IsPoint size point
  pub encoded : bytes ≡ encoding size point
  pub words : text ≡ tag_words size (point_tag point)

-- the words for the point that these bytes encode at the first of these sizes at which they encode
-- one, otherwise `none`
abbrev pub IsFirstPointText : List ℕ → List ℕ → List ℕ → Type 0
IsFirstPointText [] bytes text = text ≡ codes "none"
IsFirstPointText (size ∷ sizes) bytes text =
    IsPointText size bytes text ⊎ ((IsEncoding size bytes → ⊥) × IsFirstPointText sizes bytes text)

-- the words for the point of the public key, if present
abbrev pub IsPublicPointText : Option (List ℕ) → List ℕ → Type 0
IsPublicPointText None text = text ≡ codes "none"
IsPublicPointText (Some bytes) text = IsFirstPointText (28 ∷ 32 ∷ 48 ∷ 66 ∷ []) bytes text

-- a line for each part of a key, and one for its point
abbrev pub key_lines : Key → List ℕ → List ℕ
key_lines key point =
    (codes "private_key: " ++ (decimal (length key.private_key) ++ codes " bytes\n"))
    ++ ((codes "parameters: " ++ (parameters_words key.parameters ++ codes "\n"))
    ++ ((codes "public_key: " ++ (public_key_words key.public_key ++ codes "\n"))
    ++ (codes "point: " ++ (point ++ codes "\n"))))

-- the report on a key
pub record IsKeyReport (key : Key) (text : List ℕ) (status : ℕ) : Type 0 where
  pub point : List ℕ
  pub point_text : IsPublicPointText key.public_key point
  pub lines : text ≡ key_lines key point
  pub accepted : status ≡ 0

-- a tree that isn't too deep has these bytes
pub record HasTree (bytes : List ℕ) (tree : Tree) : Type 0 where
  pub whole : IsTreeOf tree bytes
  pub shallow : depth tree ≤ max_tree_depth

-- the number of elements of the tree with these bytes, otherwise `no`
abbrev pub IsTreeText : List ℕ → List ℕ → Type 0
IsTreeText bytes text =
    ((tree : Tree) × HasTree bytes tree × (text ≡ decimal (size tree) ++ codes " elements"))
    ⊎ (((tree : Tree) → ¬ (HasTree bytes tree)) × (text ≡ codes "no"))

-- the report on an input that is refused for this reason, with these words for its tree
pub record IsRefusal (reason tree text : List ℕ) (status : ℕ) : Type 0 where
  pub lines : text ≡ (codes "refused: " ++ (reason ++ codes "\n"))
      ++ (codes "tree: " ++ (tree ++ codes "\n"))
  pub refused : status ≡ 1

-- the report on bytes that aren't a key's
pub record IsNoKeyReport (bytes text : List ℕ) (status : ℕ) : Type 0 where
  pub tree : List ℕ
  pub tree_text : IsTreeText bytes tree
  pub refusal : IsRefusal (codes "not an EC private key in DER") tree text status

-- the report on bytes: on the key with these bytes, otherwise a refusal
abbrev pub IsReportOnBytes : List ℕ → List ℕ → ℕ → Type 0
IsReportOnBytes bytes text status =
    ((key : Key) × IsKeyOf key bytes × IsKeyReport key text status)
    ⊎ (((key : Key) → ¬ (IsKeyOf key bytes)) × IsNoKeyReport bytes text status)

-- the report on digits: on the bytes that they encode, otherwise a refusal
abbrev pub IsReportOnDigits : List ℕ → List ℕ → ℕ → Type 0
IsReportOnDigits digits text status =
    MatchResult (decode_of digits)
    (λ bytes. IsReportOnBytes bytes text status)
    (λ _. IsRefusal (codes "not hexadecimal") (codes "no") text status)

-- the report on an input: a refusal if it is too long, otherwise this report on it
abbrev pub IsReportUnlessLong : (List ℕ → List ℕ → ℕ → Type 0) → List ℕ → List ℕ → ℕ → Type 0
IsReportUnlessLong IsReportOn input text status =
    ((limit < length input) × IsRefusal (codes "input too long") (codes "no") text status)
    ⊎ ((length input ≤ limit) × IsReportOn input text status)

-- the report on an input in hexadecimal
abbrev pub IsReport : List ℕ → List ℕ → ℕ → Type 0
IsReport input text status =
    IsReportUnlessLong (λ bytes. IsReportOnDigits (stripped bytes)) input text status

-- the report on an input in DER
abbrev pub IsDerReport : List ℕ → List ℕ → ℕ → Type 0
IsDerReport input text status = IsReportUnlessLong IsReportOnBytes input text status
