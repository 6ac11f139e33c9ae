-- What reading a key from bytes means.
use Rattle.std.specs.Prelude.{◌≡◌, List, ℕ, Some, None, Result, Ok, IfOk, IfErr, IsErrAnd}
use Rattle.std.specs.Prelude.{MatchResult}
use Rattle.sec1.specs.Errors.{IsAsn1, IsAsn1Where}
use Rattle.sec1.specs.KeyFaults.{key_fault}
use Rattle.sec1.specs.Keys.{Key, key_tree, IsKeyOf}
use Rattle.sec1.specs.declared.error.Error.{Error}
use Rattle.sec1_der.specs.Elements.{IsProperPrefix}
use Rattle.sec1_der.specs.Errors.{IsReadingFault}
use Rattle.sec1_der.specs.Trees.{Tree, IsTreeOf}
use Rattle.sec1_der.specs.declared.error.ErrorKind.TheVariants.{Truncated, TrailingData}

-- A key is read exactly if the bytes are those of a key, and then it is that key.
pub record ReadsKey (input : List ℕ) (result : Result Key Error) : Type 0 where
  -- what is read is a key, and these are its bytes
  pub found : IfOk result (λ key. IsKeyOf key input)
  -- if they are the bytes of a key, it is read
  pub only : (key : Key) → IsKeyOf key input → result ≡ Ok key
  -- every tree with the bytes of the key that is read, of any shape and depth, is the key's
  pub one_tree : IfOk result (λ key. (t : Tree) → IsTreeOf t input → t ≡ key_tree key)
  -- all other bytes are refused, by one of these kinds
  pub kinds : IfErr result (IsAsn1Where IsReadingFault)
  -- whether the bytes are refused, and by which kind, is a function of them
  pub kind : MatchResult result (λ _. key_fault input ≡ None)
      (IsAsn1Where (λ kind. key_fault input ≡ Some (Some kind)))
  -- a proper prefix of a key's bytes is refused as Truncated
  pub short : (key : Key) (bytes : List ℕ) → IsKeyOf key bytes → IsProperPrefix input bytes
      → IsErrAnd result (IsAsn1 Truncated)
  -- bytes after a key's are refused as TrailingData
  pub long : (key : Key) (bytes : List ℕ) → IsKeyOf key bytes → IsProperPrefix bytes input
      → IsErrAnd result (IsAsn1 TrailingData)
