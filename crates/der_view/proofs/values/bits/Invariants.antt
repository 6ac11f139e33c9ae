use Rattle.std.proofs.Common.{◌≡◌, length}
use Rattle.der_view.specs.Values.{bits_text}
use Rattle.der_view.proofs.values.bits.Given as goal

abbrev pub invariant-loop-place : goal.invariant-loop-place
invariant-loop-place l =
    record { count : length l.text.bytes ≡ l.place; digits : l.text.bytes ≡ bits_text l.bytes l.place }
