use Rattle.std.proofs.Common.{◌≡◌, string_bytes}
use Rattle.der_view.specs.Characters.{escaped_all}
use Rattle.sec1_dump.proofs.text.escaped.Given as goal

abbrev pub invariant-loop-character : goal.invariant-loop-character
invariant-loop-character l = string_bytes l.written ≡ escaped_all l.yielded
