-- What the parameters of a key are.
use Rattle.std.specs.Prelude.{ℕ, List}
use Rattle.sec1.specs.declared.parameters.EcParameters.{EcParameters}
use Rattle.sec1.specs.declared.parameters.EcParameters.TheVariants.{NamedCurve}

-- the arcs of the curve's identifier
abbrev pub curve_of : EcParameters → List ℕ
curve_of (NamedCurve identifier) = identifier
