use Rattle.std.proofs.Common.{sym, true, false}
use Rattle.sec1.specs.Points.{identity, compact, compressed, uncompressed, hybrid}
use Rattle.sec1_c.proofs.point.encoded.encoding_len.Goals as goal

pub returns-in-0-clause-none : goal.returns-in-0-clause-none
returns-in-0-clause-none c none = absurd (none identity (sym c.in-0.is))

pub returns-in-2-clause-none : goal.returns-in-2-clause-none
returns-in-2-clause-none c none = absurd (none (compressed 0 false) (sym c.in-2.is))

pub returns-in-3-clause-none : goal.returns-in-3-clause-none
returns-in-3-clause-none c none = absurd (none (compressed 0 true) (sym c.in-3.is))

pub returns-in-4-clause-none : goal.returns-in-4-clause-none
returns-in-4-clause-none c none = absurd (none (uncompressed 0 0) (sym c.in-4.is))

pub returns-in-5-clause-none : goal.returns-in-5-clause-none
returns-in-5-clause-none c none = absurd (none (compact 0) (sym c.in-5.is))

pub returns-in-6-clause-none : goal.returns-in-6-clause-none
returns-in-6-clause-none c none = absurd (none (hybrid 0 0) (sym c.in-6.is))

pub returns-in-7-clause-none : goal.returns-in-7-clause-none
returns-in-7-clause-none c none = absurd (none (hybrid 0 1) (sym c.in-7.is))
