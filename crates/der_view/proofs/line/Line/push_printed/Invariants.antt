use Rattle.std.proofs.Common.{◌≡◌, ◌++◌, map, take}
use Rattle.der_view.specs.Lines.{kept, printed}
use Rattle.der_view.proofs.line.Line.push_printed.Given as goal

abbrev pub invariant-loop-byte : goal.invariant-loop-byte
invariant-loop-byte l = l.self ≡ kept (l.fn.self ++ map printed (take l.byte-index l.bytes))
