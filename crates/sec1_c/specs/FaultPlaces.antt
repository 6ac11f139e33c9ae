-- The kind and the offset of the first fault of some bytes, as they are stored.
use Rattle.std.specs.Prelude.{◌≡◌, ℕ, Option, Some, None}
use Rattle.der_view.specs.declared.faults.Position.{Position}
use Rattle.sec1_c.specs.Statuses.{kind_number}

-- The number of its kind is returned, and its offset stored. If there is none, 0 is returned and
-- what was stored is unchanged.
abbrev pub StoresFault : Option Position → ℕ → ℕ → ℕ → Type 0
StoresFault None result old new = (result ≡ 0) × (new ≡ old)
StoresFault (Some fault) result old new = (result ≡ kind_number fault.kind) × (new ≡ fault.offset)
