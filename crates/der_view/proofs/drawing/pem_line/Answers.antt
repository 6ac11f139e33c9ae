use Rattle.der_view.proofs.LineLemmas.{kept_seven}
use Rattle.der_view.proofs.drawing.pem_line.Goals as goal

pub returns : goal.returns
returns c =
    kept_seven _ _ _ _ _ _ _ _ _ _ _ _ _ _ _ c.new-line.ensures c.push_str.ensures c.push_decimal.ensures
    c.push_str-2.ensures c.push_bytes.ensures c.push_str-3.ensures c.push_found.ensures
    (rw c.end_text.ensures at c.push_str-4.ensures)
