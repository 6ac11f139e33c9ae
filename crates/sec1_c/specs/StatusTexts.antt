-- The texts of the numbers that the calls return.
use Rattle.std.specs.Prelude.{◌≡◌, ℕ, ◌≤◌, ◌<◌, List, codes}
use Rattle.sec1.specs.Errors.{error_message}
use Rattle.sec1.specs.declared.error.Error.TheVariants.{PointEncoding}
use Rattle.sec1_der.specs.Errors.{kind_message}
use Rattle.sec1_der.specs.declared.error.ErrorKind.{ErrorKind}
use Rattle.sec1_c.specs.Statuses.{kind_number, error_number}
use Rattle.sec1_c.specs.Statuses.{field_length_number, curve_number, other_curve_number}
use Rattle.sec1_c.specs.Statuses.{pem_number}

-- The words are the text of this number: where it is that of a kind of error in DER, or of points,
-- what `{}` prints of the error.
pub record IsStatusText (status : ℕ) (words : List ℕ) : Type 0 where
  pub ok : status ≡ 0 → words ≡ codes "ok"
  pub kind : (kind : ErrorKind) → status ≡ kind_number kind → status ≤ 13
      → words ≡ kind_message kind
  pub no_point : status ≡ error_number PointEncoding → words ≡ error_message PointEncoding
  pub field_length : status ≡ field_length_number
      → words ≡ codes "length of field elements not supported"
  pub curve : status ≡ curve_number → words ≡ codes "curve not in the table"
  pub other_curve : status ≡ other_curve_number
      → words ≡ codes "key and container name different curves"
  pub no_pem : status ≡ pem_number → words ≡ codes "no whole PEM block with this label"
  pub other_number : 13 < status → words ≡ codes "unknown status"
