-- Where bytes aren't refused, there is no place of a refusal.
use Rattle.std.proofs.Common.{◌≡◌, ◌≢◌, List, ℕ, Option, Some, None, refl}
use Rattle.std.specs.Prelude.{option_map}
use Rattle.der_view.proofs.FaultLemmas.{container_refused, key_refused, public_key_refused}
use Rattle.der_view.specs.Containers.{container_fault}
use Rattle.der_view.specs.FaultPlaces.{IsPlaceOf, container_place, key_place, public_key_place}
use Rattle.der_view.specs.declared.faults.Position.{Position}
use Rattle.sec1.specs.KeyFaults.{key_fault}
use Rattle.pkix.specs.Records.{public_key_fault}
use Rattle.sec1_c.specs.Statuses.{fault_number, kind_number}
use Rattle.sec1_der.specs.Faults.{element_fault, end_fault}
use Rattle.sec1_der.specs.declared.error.ErrorKind.{ErrorKind}
use Rattle.sec1_der.specs.declared.error.ErrorKind.TheVariants.{Truncated, Tag, Length, TrailingData, Value, Overlength}
use Rattle.sec1_der.specs.declared.error.ErrorKind.TheVariants.{Buffer, Depth, Failed, Io, Memory}

-- only success has the number 0
has_number : (kind : ErrorKind) → kind_number kind ≢ 0
has_number Truncated e = cc e
has_number Tag e = cc e
has_number Length e = cc e
has_number TrailingData e = cc e
has_number Value e = cc e
has_number Overlength e = cc e
has_number Buffer e = cc e
has_number Depth e = cc e
has_number Failed e = cc e
has_number Io e = cc e
has_number Memory e = cc e

pub no_key_place : (bytes : List ℕ) → fault_number (key_fault bytes) ≡ 0 → key_place bytes ≡ None
no_key_place bytes none = by (key_place bytes) (rw (key_refused bytes).kind none)
  where
    by : (o : Option Position) → fault_number (option_map (λ (f : Position). Some f.kind) o) ≡ 0 → o ≡ None
    by None e = refl
    by (Some fault) e = absurd (has_number fault.kind e)

-- where there is no refusal, it has no place
nowhere : (refusal : Option (Option ErrorKind)) (end : ℕ) (place : Option Position) → IsPlaceOf refusal end place
    → refusal ≡ None → place ≡ None
nowhere refusal end None is none = refl
nowhere refusal end (Some fault) is none = cc (is.kind, none)

pub no_public_key_place : (bytes : List ℕ) → element_fault 0x30 public_key_fault end_fault bytes ≡ None
    → public_key_place bytes ≡ None
no_public_key_place bytes = nowhere _ _ _ (public_key_refused bytes)

pub no_container_place : (bytes : List ℕ) → element_fault 0x30 container_fault end_fault bytes ≡ None
    → container_place bytes ≡ None
no_container_place bytes = nowhere _ _ _ (container_refused bytes)
