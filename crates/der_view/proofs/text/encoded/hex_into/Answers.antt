use Rattle.std.proofs.Common.{◌≡◌, ℕ, ◌/◌, ◌≤◌, List, ◌++◌, length, take, drop, refl, sym, ap, ◌∙◌, arith, Some, Result}
use Rattle.std.proofs.Common.{Ok, Err, MatchResult, length-append, length-take-le, take_all}
use Rattle.std.proofs.lemmas.List.{take-append-le}
use Rattle.hex.proofs.HexLemmas.{decode_sized-ok, decode_sized-twice}
use Rattle.hex.specs.Hex.{decode_of, decode_sized}
use Rattle.hex.specs.declared.error.FromHexError.{FromHexError}
use Rattle.der_view.specs.Encoded.{hex_bytes, hex_digits}
use Rattle.der_view.proofs.text.encoded.hex_into.Goals as goal

-- what was written is what the digits encode
written : (r : Result (List ℕ) FromHexError) (done : Result (Unit {0}) FromHexError) (new : List ℕ)
    → done ≡ Ok tt → MatchResult r (λ bytes. (done ≡ Ok tt) × (new ≡ bytes)) (λ e. done ≡ Err e) → r ≡ Ok new
written (Ok bytes) done new ok (same, is) = ap (λ (b : List ℕ). Ok b) (sym is)
written (Err e) done new ok is = cc

at_front : (text digits new rest : List ℕ) (half n : ℕ) → digits ≡ hex_digits text → length new ≡ half
    → decode_sized digits n ≡ Ok new → (hex_bytes text ≡ Some (take half (new ++ rest))) × (half ≤ length (new ++ rest))
unfolding hex_bytes
at_front text digits new rest half n same size ok =
    let whole : decode_of digits ≡ Ok new = sym (decode_sized-twice digits n (decode_sized-ok digits n new ok)) ∙ ok in
    let front : take half (new ++ rest) ≡ new =
    take-append-le half new rest (omega arith) ∙ take_all half new (omega arith) in
    (rw (sym same, whole, front) refl, omega (arith, length-append new rest))

pub returns-in-Ok : goal.returns-in-Ok
returns-in-Ok c =
    let half = c.strip_hex-count.result / 2 in
    at_front c.args.text.now _ c.decode_to_slice.new.out (drop half c.args.bytes.now) half _
    c.strip_hex-count.ensures.digits (omega (arith, length-take-le half c.args.bytes.now (omega arith)))
    (written _ c.decode_to_slice.result c.decode_to_slice.new.out c.in-Ok.is c.decode_to_slice.ensures.value)
