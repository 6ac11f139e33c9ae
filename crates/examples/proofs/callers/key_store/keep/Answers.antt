use Rattle.std.proofs.Common.{◌≡◌, Bool, true, false, sym, refl}
use Rattle.sec1.specs.EncodedPoints.{point_of}
use Rattle.std.specs.Ordering.{is_eq}
use Rattle.sec1.specs.PointOrder.{point_cmp}
use Rattle.sec1.specs.PointOrderLaws.{point_cmp-is_eq}
use Rattle.examples.specs.KeyStores.{kept}
use Rattle.examples.proofs.callers.key_store.keep.Goals as goal

pub returns-clause-others : goal.returns-clause-others
returns-clause-others c other apart = by (is_eq (point_cmp (point_of c.args.point) (point_of other))) refl
  where
    by : (b : Bool) → is_eq (point_cmp (point_of c.args.point) (point_of other)) ≡ b
        → kept c.insert.new.self (point_of other) ≡ kept c.args.store.now (point_of other)
    by true same = absurd (apart (sym (point_cmp-is_eq (point_of c.args.point) (point_of other) same)))
    by false differ = c.in_ok-insert.ensures.updates.2 other differ
