use Rattle.std.proofs.Common.{[], append-nil, ap, refl, Ok, rules}
use Rattle.std.proofs.lemmas.Bool.{false≢true}
use Rattle.der_types.proofs.codec.read_part.Goals as goal

pub returns-in_err-part : goal.returns-in_err-part
returns-in_err-part g c = record {
  found = search rules;
  only = λ part same.
      absurd (c.in_err-part.ensures.only part _ [] c.requires.0 same tt (rw append-nil c.new-reader.ensures)).0;
  kinds = search rules;
  kind = search rules;
}

pub returns-in_err-finish : goal.returns-in_err-finish
returns-in_err-finish g c = record {
  found = search rules;
  only = λ part same.
      let read = c.in_ok-part.ensures.only part _ [] c.requires.0 same tt (rw append-nil c.new-reader.ensures) in
      absurd (false≢true (c.in_err-finish.ensures.only read.1));
  kinds = search rules;
  kind = search rules;
}

pub returns : goal.returns
returns g c = record {
  found = search rules;
  only = λ part same.
      let read = c.in_ok-part.ensures.only part _ [] c.requires.0 same tt (rw append-nil c.new-reader.ensures) in
      ap (λ v. Ok v) (c.bytes_injective.ensures c.in_ok-part.part part _ _ [] [] c.requires.0 read.0 same tt tt refl).0;
  kinds = search rules;
  kind = search rules;
}
