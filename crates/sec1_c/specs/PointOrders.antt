-- The order of points, as a number.
use Rattle.std.specs.Prelude.{◌≡◌, ◌↔◌, ℤ, pos, negsuc}
use Rattle.std.specs.declared.cmp.Ordering.{Ordering}
use Rattle.std.specs.declared.cmp.Ordering.TheVariants.{Less, Equal, Greater}
use Rattle.sec1.specs.Points.{Point}
use Rattle.sec1.specs.PointOrder.{IsBelow}

-- -1 if the first point is less than the second, 1 if it is greater, 0 if they are the same
pub record IsOrderOf (p q : Point) (order : ℤ) : Type 0 where
  pub below : (order ≡ negsuc 0) ↔ IsBelow p q
  pub above : (order ≡ pos 1) ↔ IsBelow q p
  pub same : (order ≡ pos 0) ↔ (p ≡ q)

-- the number of an order
abbrev pub order_of : Ordering → ℤ
order_of Less = negsuc 0
order_of Equal = pos 0
order_of Greater = pos 1
