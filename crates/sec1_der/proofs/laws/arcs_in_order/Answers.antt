use Rattle.std.proofs.Common.{List, ap, length, ℕ}
use Rattle.std.proofs.iter.runs.Sources.{from_front}
use Rattle.std.specs.Iterator.{YieldsFirst}
use Rattle.sec1_der.proofs.laws.arcs_in_order.Goals as goal

pub returns : goal.returns
returns c run seen =
    from_front (YieldsFirst {A = ℕ} (λ (left : List ℕ). left)) (λ arc. arc) (λ left. left) (λ s t h. ap length h.0)
    (λ s x t h. h) run seen
