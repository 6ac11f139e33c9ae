-- A map from public keys to documents.
use Rattle.std.specs.Prelude.{Option}
use Rattle.std.specs.BTreeMap.{BTreeMap}
use Rattle.std.specs.Map.{lookup}
use Rattle.std.specs.Ordering.{is_eq}
use Rattle.sec1.specs.EncodedPoints.{point_of}
use Rattle.sec1.specs.PointOrder.{point_cmp}
use Rattle.sec1.specs.Points.{Point}
use Rattle.sec1.specs.declared.point.EncodedPoint.{EncodedPoint}

-- the value of the entry whose key is this point
abbrev pub kept : {V : Type 0} → BTreeMap (EncodedPoint 32 65) V → Point → Option V
kept store point = lookup (λ key. is_eq (point_cmp point (point_of key))) store.entries
