use Rattle.std.proofs.Common.{◌≡◌, ◌++◌, take}
use Rattle.der_view.specs.Lines.{kept}
use Rattle.der_view.specs.RowLines.{hex_words}
use Rattle.der_view.proofs.line.Line.push_header.Given as goal

abbrev pub invariant-loop-byte : goal.invariant-loop-byte
invariant-loop-byte l = l.self ≡ kept (l.fn.self ++ hex_words (take l.byte-index l.header))
