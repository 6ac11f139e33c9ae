use Rattle.std.proofs.Common.{◌∙◌, ap, Ok}
use Rattle.sec1_c.proofs.ContainerLemmas.{by_other, by_value, is_container, no_other, only_one, only_zero}
use Rattle.sec1_c.proofs.ContainerLemmas.{zero_kind}
use Rattle.sec1_der.proofs.KindLaws.{fault_of}
use Rattle.sec1_c.proofs.container.read_container.Goals as goal

pub returns-in-Ok-clause-found : goal.returns-in-Ok-clause-found
returns-in-Ok-clause-found c =
    rw c.of_version_zero.ensures (is_container c.in-Ok.info c.args.bytes.now c.in-Ok.ensures.found)

pub returns-in-Ok-clause-only : goal.returns-in-Ok-clause-only
returns-in-Ok-clause-only c container is =
    let same = only_zero c.in-Ok.info container c.args.bytes.now c.in-Ok.ensures.kind c.in-Ok.ensures.only is in
    ap Ok (c.of_version_zero.ensures ∙ same)

pub returns-in-Value-clause-only : goal.returns-in-Value-clause-only
returns-in-Value-clause-only c container is =
    c.from_der-in-Value.ensures.only container
    (only_one c.in-Err.error container c.args.bytes.now c.in-Err.ensures.only is)

pub returns-in-Value-clause-kind : goal.returns-in-Value-clause-kind
returns-in-Value-clause-kind c =
    rw (by_value c.args.bytes.now c.in-Err.error.kind
    (zero_kind c.args.bytes.now c.in-Err.error.kind c.in-Err.ensures.kind) c.in-Value.is)
    c.from_der-in-Value.ensures.kind

pub returns-in_default : goal.returns-in_default
returns-in_default c =
    let bytes = c.args.bytes.now in
    let known = c.in-Err.ensures in
    let kind = zero_kind bytes c.in-Err.error.kind known.kind in
    record {
      found = tt;
      only = λ container is.
          absurd (no_other c.in-Err.error container bytes known.only kind c.in_default.not-Value is);
      kind = fault_of _ _ (by_other bytes c.in-Err.error.kind kind c.in_default.not-Value);
    }
