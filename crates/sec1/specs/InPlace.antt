-- What reading a value into an existing place means.
use Rattle.std.specs.Prelude.{◌≡◌, ℕ, List, Option, Some, Result, IsOk, IfErr, OnOk}
use Rattle.sec1_der.specs.Errors.{IsReadingFault}
use Rattle.sec1_der.specs.Faults.{Fault, HasFault}
use Rattle.sec1_der.specs.declared.error.Error.{Error}

-- The input is read into a place: `bytes_of` gives the bytes of a value, and `fault` is the rule by
-- which bytes are refused.
pub record ReadsInto {T U : Type 0} (bytes_of : T → Option (List ℕ)) (fault : Fault)
    (input : List ℕ) (place : T) (result : Result U Error) : Type 0 where
  pub found : OnOk result (bytes_of place ≡ Some input)
  -- the bytes of each value are read
  pub only : (value : T) → bytes_of value ≡ Some input → IsOk result
  pub kinds : IfErr result (λ e. IsReadingFault e.kind)
  -- whether the input is refused, and by which kind, is a function of it
  pub kind : HasFault result (fault input)
