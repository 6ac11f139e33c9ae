use Rattle.sec1.proofs.StreamLemmas.{stream_read, stream_refused}
use Rattle.sec1.proofs.traits.DecodeEcPrivateKey.read_sec1_der_from.Goals as goal

pub returns-in_err-document-clause-kind : goal.returns-in_err-document-clause-kind
returns-in_err-document-clause-kind g c =
    stream_refused _ _ _ _ _ c.in_err-document.field-0.0 _ c.from_residual.ensures.1
    c.in_err-document.ensures.reads.refused c.in_err-document.ensures.kind

pub returns-clause-kind : goal.returns-clause-kind
returns-clause-kind g c =
    let found = c.in_ok-document.ensures.reads.found in
    stream_read _ _ _ _ _ _ found.0 found.1 c.in_ok-document.ensures.kind
