-- The numbers that the calls return: 0 for success, otherwise the reason of the refusal.
use Rattle.std.specs.Prelude.{◌≡◌, ◌⊎◌, ℕ, Option, Some, None}
use Rattle.sec1.specs.declared.error.Error.{Error}
use Rattle.sec1.specs.declared.error.Error.TheVariants.{Asn1, Crypto, PointEncoding, Version}
use Rattle.sec1.specs.declared.error.Error.TheVariants.{Memory}
use Rattle.sec1_der.specs.declared.error.ErrorKind.{ErrorKind}
use Rattle.sec1_der.specs.declared.error.ErrorKind.TheVariants.{Truncated, Tag, Length}
use Rattle.sec1_der.specs.declared.error.ErrorKind.TheVariants.{TrailingData, Value, Overlength}
use Rattle.sec1_der.specs.declared.error.ErrorKind.TheVariants.{Buffer, Depth, Failed, Io}
use Rattle.sec1_der.specs.declared.error.ErrorKind.TheVariants.{Memory as OutOfMemory}

-- the number of a kind of error in DER
abbrev pub kind_number : ErrorKind → ℕ
kind_number Truncated = 1
kind_number Tag = 2
kind_number Length = 3
kind_number TrailingData = 4
kind_number Value = 5
kind_number Overlength = 6
kind_number Buffer = 7
kind_number Depth = 8
kind_number Failed = 14
kind_number Io = 15
kind_number OutOfMemory = 16

-- the number of the kind by which bytes are refused; 0 if there is none, or one that isn't said,
-- which no rule here has
abbrev pub fault_number : Option (Option ErrorKind) → ℕ
fault_number None = 0
fault_number (Some None) = 0
fault_number (Some (Some kind)) = kind_number kind

-- the number of an error; no call returns one above 13
abbrev pub error_number : Error → ℕ
error_number (Asn1 cause) = kind_number cause.kind
error_number PointEncoding = 9
error_number Memory = 16
error_number Crypto = 17
error_number Version = 18

-- the number of a field length that isn't supported
abbrev pub field_length_number : ℕ
field_length_number = 10

-- the number of a curve that isn't in the table
abbrev pub curve_number : ℕ
curve_number = 11

-- the number of a key that names another curve than its container
abbrev pub other_curve_number : ℕ
other_curve_number = 12

-- the number of a text without the PEM that is asked for
abbrev pub pem_number : ℕ
pem_number = 13

-- the reasons for which bytes are refused: Truncated, Tag, Length, TrailingData or Value
abbrev pub IsReadingNumber : ℕ → Type 0
IsReadingNumber n = (n ≡ 1) ⊎ ((n ≡ 2) ⊎ ((n ≡ 3) ⊎ ((n ≡ 4) ⊎ (n ≡ 5))))

-- the reasons for which a tree is refused: Truncated, Tag, Length, TrailingData or Depth
abbrev pub IsTreeNumber : ℕ → Type 0
IsTreeNumber n = (n ≡ 1) ⊎ ((n ≡ 2) ⊎ ((n ≡ 3) ⊎ ((n ≡ 4) ⊎ (n ≡ 8))))
