use Rattle.std.proofs.Common.{◌≡◌, take}
use Rattle.std.specs.Char.{is_ascii_uppercase, is_ascii_lowercase}
use Rattle.std.specs.List.{list_any}
use Rattle.sec1.proofs.point.text.is_one_case.Given as goal

abbrev pub invariant-loop-c : goal.invariant-loop-c
invariant-loop-c l = record {
  upper : l.has_upper ≡ list_any is_ascii_uppercase (take l.c-index l.text);
  lower : l.has_lower ≡ list_any is_ascii_lowercase (take l.c-index l.text);
}
