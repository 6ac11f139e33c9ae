use Rattle.std.proofs.Common.{◌≡◌, None, refl}
use Rattle.sec1_c.proofs.container.write.sec1_private_key_info_write.Goals as goal

pub unreachable-requires : goal.unreachable-requires
unreachable-requires c =
    let some = c.key_given.ensures.some None (record { content_is = refl; names = tt }) in
    absurd (cc (rw c.in_default-key_given.is at some))

pub returns-clause-container : goal.returns-clause-container
returns-clause-container c named key bytes same given is =
    let curve : c.in-Some.curve ≡ named = cc (c.in-Some.ensures.only named same) in
    let found : c.in-Some-key_given.key ≡ key = cc (c.in-Some-key_given.ensures.only key given) in
    c.write_container.ensures.container bytes (rw (curve, found) is)

pub returns-clause-overlength : goal.returns-clause-overlength
returns-clause-overlength c named key same given none =
    let curve : c.in-Some.curve ≡ named = cc (c.in-Some.ensures.only named same) in
    let found : c.in-Some-key_given.key ≡ key = cc (c.in-Some-key_given.ensures.only key given) in
    c.write_container.ensures.overlength (rw (curve, found) none)
