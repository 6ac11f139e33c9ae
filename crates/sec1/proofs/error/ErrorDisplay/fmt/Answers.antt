use Rattle.std.proofs.Common.{refl}
use Rattle.sec1_der.proofs.TextLaws.{join_two}
use Rattle.sec1.proofs.error.ErrorDisplay.fmt.Goals as goal

pub returns-in-Asn1-clause-styled : goal.returns-in-Asn1-clause-styled
returns-in-Asn1-clause-styled g c = λ flush ok.
    let first = c.in_ok-write_str-in-Asn1.ensures.styled flush cc in
    join_two _ _ _ _ _ _ _ first (c.fmt.ensures.styled first.flush ok) (rw c.in-Asn1.is refl)
