use Rattle.std.proofs.Common.{◌≡◌}
use Rattle.sec1_c.proofs.ContainerLemmas.{are_container_parts}
use Rattle.sec1_c.proofs.container.sec1_private_key_info_read.Goals as goal

pub returns-clause-parts : goal.returns-clause-parts
returns-clause-parts c container curve is on =
    let same : c.in-Ok.container ≡ container = cc (c.in-Ok.ensures.only container is) in
    let found : c.in-Some.curve ≡ curve = cc (c.in-Some.ensures.only curve (rw same on)) in
    rw (c.places.ensures, same, found) (are_container_parts curve container c.args.bytes.now is on)
