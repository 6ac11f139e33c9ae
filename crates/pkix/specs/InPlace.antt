-- What reading into an existing place returns.
use Rattle.std.specs.Prelude.{Result, Ok, Err}

-- The result of a call that reads a value into a place, as that of a call which returns the value:
-- what the place holds after a success, or the error.
abbrev pub placed : {T U E : Type 0} → T → Result U E → Result T E
placed place (Ok done) = Ok place
placed place (Err error) = Err error
