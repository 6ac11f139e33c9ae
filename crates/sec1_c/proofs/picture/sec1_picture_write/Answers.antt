use Rattle.std.proofs.Common.{◌≤◌, [], ap, arith, length, refl}
use Rattle.std.proofs.lemmas.List.{length-take}
use Rattle.der_view.specs.Drawings.{has_key}
use Rattle.sec1_c.proofs.PictureLemmas.{drawn, stored_so, told_number}
use Rattle.sec1_c.proofs.picture.sec1_picture_write.Goals as goal

pub returns-clause-exact : goal.returns-clause-exact
returns-clause-exact c json levels offset room =
    let written = c.in-Ok.ensures.plain (rw (json, levels, offset) refl) in
    let told = c.in-Ok.ensures.key offset in
    drawn _ _ _ _ _ _ _ _ _ _ _ (written _ [] c.new-writer.ensures.stored) c.split_at_mut-copy.ensures.front_len
    (omega (arith, room)) (omega (arith, c.count.ensures, c.if-text-count.false)) c.items.ensures c.write_bytes.ensures
    (told_number c.in-Ok.has_key (has_key c.args.input.now) c.from.result c.from.ensures told)

pub returns-clause-stored : goal.returns-clause-stored
returns-clause-stored c =
    let fits : c.count.result ≤ length c.args.text.now = omega (arith, c.if-text-count.false) in
    let few = length-take c.show.new.writer.count c.show.new.writer.slice.now in
    stored_so _ _ _ _ _ _ c.write_bytes.ensures (omega (arith, fits, c.count.ensures, ap length c.items.ensures, few))
