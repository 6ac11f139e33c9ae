use Rattle.der_view.proofs.RowLenLemmas.{picture_rows}
use Rattle.der_view.proofs.laws.rows_are_bytes.Goals as goal

pub returns : goal.returns
returns c = record { len = λ all bytes. (picture_rows all bytes).0; order = λ all bytes. (picture_rows all bytes).1 }
