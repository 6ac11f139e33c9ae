-- Which points tie, and which are less than others.
use Rattle.std.proofs.Common.{◌≡◌, ℕ, ◌<◌, Bool, true, false, arith, ◌↔◌, refl, Less, Equal, Greater, nat_cmp}
use Rattle.std.proofs.lemmas.Cmp.{tied_itself}
use Rattle.sec1.specs.Points.{Point}
use Rattle.std.specs.Ordering.{is_eq}
use Rattle.sec1.specs.PointOrder.{IsBelow, point_cmp}
use Rattle.sec1.specs.PointOrderLaws.{point_cmp_total, point_cmp-is_eq}

-- The same point ties.
pub Equal-point_cmp : (p q : Point) → p ≡ q → point_cmp p q ≡ Equal
Equal-point_cmp p q h = rw h (tied_itself point_cmp_total q)

-- Points that tie are the same.
pub point_cmp-Equal : (p q : Point) → point_cmp p q ≡ Equal → p ≡ q
point_cmp-Equal p q h = point_cmp-is_eq p q (rw h refl)

-- A test that decides sameness is the test of sameness.
pub decides_same : (r : Bool) (p q : Point) → ((r ≡ true) ↔ (p ≡ q)) → r ≡ is_eq (point_cmp p q)
decides_same true p q h = grind (arith, Equal-point_cmp)
decides_same false p q h = grind (arith, point_cmp-is_eq)

-- The order of numbers, as an equation.
nat_cmp-Less : (a b : ℕ) → (nat_cmp a b ≡ Less) ↔ (a < b)
nat_cmp-Less a b = (λ h. grind arith, λ h. grind arith)

-- Numbers tie only where they are the same.
pub nat_cmp-Equal : (a b : ℕ) → (nat_cmp a b ≡ Equal) ↔ (a ≡ b)
nat_cmp-Equal a b = (λ h. grind arith, λ h. grind arith)

-- The comparison of a point with a greater one is Less.
pub less_below : (p q : Point) → (point_cmp p q ≡ Less) ↔ IsBelow p q
unfolding point_cmp
less_below p q = grind (arith, nat_cmp-Less, nat_cmp-Equal)

-- The comparison of a point with a lesser one is Greater.
pub greater_below : (p q : Point) → (point_cmp p q ≡ Greater) ↔ IsBelow q p
greater_below p q = grind (arith, less_below q p, point_cmp_total.antisymm p q)

-- What the order of two points says.
pub ruleset orders = (less_below, greater_below, point_cmp-Equal, Equal-point_cmp)
