use Rattle.std.proofs.lemmas.Str.Ascii.{trim_ascii_start_is}
use Rattle.der_view.proofs.text.pem.trimmed_start.Goals as goal

pub returns-clause-value : goal.returns-clause-value
returns-clause-value c = trim_ascii_start_is c.args.text.now _ c.trim_ascii_start.ensures.value
