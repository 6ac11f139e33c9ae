use Rattle.std.proofs.Common.{◌≡◌, ◌<◌, ◌^◌, take}
use Rattle.sec1_der.specs.Elements.{number_of}
use Rattle.der_view.proofs.names.magnitude.Given as goal

abbrev pub invariant-loop-digit : goal.invariant-loop-digit
invariant-loop-digit l = record {
  number : l.number ≡ number_of (take l.digit-index l.digits);
  end : l.end ≡ 256 ^ l.digit-index;
  below : l.number < l.end;
}
