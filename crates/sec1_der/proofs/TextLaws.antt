-- What is written to a formatter, whatever options are set. Further crates cite these laws.
use Rattle.std.proofs.Common.{◌≡◌, ℕ, List, ◌++◌}
use Rattle.std.specs.Fmt.{HasWritten, HasWrittenStyled, IsPlainFormatter, IsFlush}
use Rattle.std.specs.declared.fmt.Formatter.{Formatter}
use Rattle.std.proofs.Output.{has_written_styled_append}

-- what is written whatever options are set is written where none are
pub plain_of_styled : {W : Type 0} (took : W → List ℕ → W → Type 0) (f : Formatter W)
    (bs : List ℕ) (g : Formatter W)
    → IsPlainFormatter f → HasWrittenStyled took f bs g → HasWritten took f bs g
plain_of_styled took f bs g plain w =
    let e = w.spec in record { wrote = w.wrote; plain = record { bare = rw e plain.bare; flush = w.flush } }

pub flush_of_plain : {W : Type 0} (f : Formatter W) → IsPlainFormatter f → IsFlush f
flush_of_plain f plain = plain.flush

-- two texts that are written one after the other
pub join_two : {W : Type 0} (took : W → List ℕ → W → Type 0) (f g h : Formatter W)
    (a b all : List ℕ) → HasWrittenStyled took f a g → HasWrittenStyled took g b h
    → a ++ b ≡ all → HasWrittenStyled took f all h
join_two took f g h a b all p q e = rw (← e) (has_written_styled_append took f a g b h p q)

-- what a type takes that is printed by one call
pub ruleset shown_whole = (plain_of_styled, flush_of_plain)
