use Rattle.std.proofs.Common.{◌≡◌, ◌++◌}
use Rattle.der_view.specs.Characters.{codes_of, escaped_all}
use Rattle.der_view.specs.Lines.{kept}
use Rattle.der_view.proofs.line.Line.push_characters.Given as goal

abbrev pub invariant-loop-character : goal.invariant-loop-character
invariant-loop-character l =
    kept (l.self ++ escaped_all (codes_of l.character-iterator))
    ≡ kept (l.fn.self ++ escaped_all (codes_of l.characters))
