-- The laws of the order of points, which the impls of the comparing traits name: it is total, and
-- two points compare as equal only if they are the same.
use Rattle.std.proofs.Common.{◌≡◌, ℕ, true, refl, sym, ◌∙◌, arith}
use Rattle.std.specs.Prelude.{unwrap_or}
use Rattle.std.specs.Cmp.{IsTotalOrder}
use Rattle.std.specs.declared.cmp.Ordering.TheVariants.{Equal}
use Rattle.std.specs.Ordering.{nat_cmp, ordering_then, is_eq}
use Rattle.std.proofs.lemmas.Cmp.{nat_cmp_total, on_total, then_total}
use Rattle.sec1.specs.Points.{Point, identity, tag_byte, x_of, y_of, point_from}
use Rattle.sec1.specs.PointOrder.{point_cmp}

pub point_cmp_total : IsTotalOrder point_cmp
unfolding point_cmp
point_cmp_total =
    then_total (on_total tag_byte nat_cmp_total)
    (then_total (on_total (λ p. unwrap_or (x_of p) 0) nat_cmp_total)
    (on_total (λ p. unwrap_or (y_of p) 0) nat_cmp_total))

-- Tag and coordinates make the point.
point_from-parts : (p : Point)
    → point_from (tag_byte p) (unwrap_or (x_of p) 0) (unwrap_or (y_of p) 0) ≡ p
point_from-parts identity = refl
point_from-parts p = grind arith

-- Numbers that are compared one pair after the other tie only if each pair is the same.
three_tie : (a b c d e f : ℕ)
    → ordering_then (nat_cmp a b) (ordering_then (nat_cmp c d) (nat_cmp e f)) ≡ Equal
    → (a ≡ b) × (c ≡ d) × (e ≡ f)
three_tie a b c d e f h = (grind arith, grind arith, grind arith)

-- Points that tie are the same.
point_cmp-Equal : (p q : Point) → point_cmp p q ≡ Equal → p ≡ q
unfolding point_cmp
point_cmp-Equal p q h =
    let tie =
    three_tie (tag_byte p) (tag_byte q) (unwrap_or (x_of p) 0) (unwrap_or (x_of q) 0)
    (unwrap_or (y_of p) 0) (unwrap_or (y_of q) 0) h in
    sym (point_from-parts p) ∙ rw (tie.0, tie.1, tie.2) (point_from-parts q)

-- Points that are found equal are the same.
pub point_cmp-is_eq : (p q : Point) → is_eq (point_cmp p q) ≡ true → p ≡ q
point_cmp-is_eq p q h = point_cmp-Equal p q (grind arith)
