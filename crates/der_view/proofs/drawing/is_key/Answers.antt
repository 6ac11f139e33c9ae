use Rattle.std.proofs.Common.{◌≡◌, ℕ, false, List, Some, refl, sym, is_none}
use Rattle.sec1.specs.Errors.{IsAsn1Where}
use Rattle.sec1.specs.KeyFaults.{key_fault}
use Rattle.sec1.specs.declared.error.Error.{Error}
use Rattle.sec1.specs.declared.error.Error.TheVariants as errors
use Rattle.der_view.specs.Drawings.{is_key_of}
use Rattle.der_view.proofs.drawing.is_key.Goals as goal

refused : (bytes : List ℕ) (error : Error) → IsAsn1Where (λ kind. key_fault bytes ≡ Some (Some kind)) error
    → is_none (key_fault bytes) ≡ false
refused bytes (errors.Asn1 cause) is = rw is refl
refused bytes _ is = absurd is

pub returns-in-Err-clause-value : goal.returns-in-Err-clause-value
unfolding is_key_of
returns-in-Err-clause-value c = sym (refused c.args.bytes.now _ c.in-Err.ensures.kind)
