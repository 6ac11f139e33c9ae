use Rattle.std.proofs.Common.{◌≡◌, ap, arith, refl, ◌∷◌}
use Rattle.std.proofs.lemmas.Grind.{put_two}
use Rattle.sec1.specs.Coordinates.{first_bytes}
use Rattle.sec1.proofs.CoordinateLemmas.{one_item, all_items, first_none}
use Rattle.sec1.proofs.point.coordinates.CoordinateDebug.fmt.Goals as goal

pub loop-i-init : goal.loop-i-init
loop-i-init g c = λ plain.
    rw (first_none c.args.self.now.0.now) (c.in_ok-write_str.ensures.writes plain cc)

pub loop-i-preserved : goal.loop-i-preserved
loop-i-preserved g c = λ plain.
    let so_far = c.loop-i.invariant plain in
    put_two _ _ _ _ _ _ _ so_far (c.in_ok-write_item.ensures so_far.plain cc)
    (ap (λ xs. 91 ∷ xs) (one_item c.loop-i.i c.args.self.now.0.now))

pub returns : goal.returns
returns g c =
    let end : c.loop-i.i ≡ g.row.N = omega arith in
    record {
      writes = rw (all_items (first_bytes g.row.N c.args.self.now.0.now)) (λ plain ok.
          let so_far = rw end at (c.loop-i.invariant plain) in
          put_two _ _ _ _ _ _ _ so_far (c.write_str-2.ensures.writes so_far.plain ok) refl);
    }
