-- The state of a writer over a slice, which is filled from its beginning or from its end, and what
-- calls that write or measure bytes do.
use Rattle.std.specs.Prelude.{◌≡◌, ◌⊎◌, ℕ, ◌<◌, ◌≤◌, List, length, Option, None, Result, IsSomeAnd}
use Rattle.std.specs.Prelude.{MatchResult, ◌+◌, ◌++◌, take, drop}
use Rattle.sec1_der.specs.declared.error.Error.{Error}
use Rattle.sec1_der.specs.declared.error.ErrorKind.{ErrorKind}
use Rattle.sec1_der.specs.declared.error.ErrorKind.TheVariants.{Overlength, Buffer}
use Rattle.sec1_der.specs.declared.slice_writer.SliceWriter.{SliceWriter}
use Rattle.sec1_der.specs.declared.back_writer.BackWriter.{BackWriter}

-- the bytes that were written, the bytes of the slice that weren't, and the ghost name of the
-- slice
pub record Writer : Type 0 where
  pub written : List ℕ
  pub room : List ℕ
  pub slice : ℕ

-- why bytes aren't written: Overlength if there are none, and Buffer if there is room for fewer
abbrev pub WhyNotWritten : Option (List ℕ) → ℕ → ErrorKind → Type 0
WhyNotWritten bytes room kind =
    ((kind ≡ Overlength) × (bytes ≡ None))
    ⊎ ((kind ≡ Buffer) × IsSomeAnd bytes (λ whole. room < length whole))

-- The bytes were added as `Adds` says, or there is an error, and nothing was written. `state` gives
-- that of a writer of this type.
pub record Writes {W : Type 0} (state : W → Writer) (Adds : Writer → Writer → List ℕ → Type 0)
    (bytes : Option (List ℕ)) (old new : W) (result : Result (Unit {0}) Error) : Type 0 where
  pub slice : (state new).slice ≡ (state old).slice
  pub grows : length (state old).written ≤ length (state new).written
  pub outcome : MatchResult result (λ _. IsSomeAnd bytes (Adds (state old) (state new)))
      (λ e. (state new ≡ state old) × WhyNotWritten bytes (length (state old).room) e.kind)

-- the state of the writer: the bytes that weren't written follow those that were
abbrev pub slice_state : SliceWriter → Writer
slice_state writer = record {
  written = take writer.position writer.buffer.now;
  room = drop writer.position writer.buffer.now;
  slice = writer.buffer.ghost_name;
}

-- these bytes were appended to what was written, and the bytes after them are unchanged
pub record Appends (old new : Writer) (bytes : List ℕ) : Type 0 where
  pub written : new.written ≡ old.written ++ bytes
  pub room : length old.room ≡ length bytes + length new.room
  pub unchanged : new.room ≡ drop (length bytes) old.room

-- the state of the writer: the bytes that weren't written are in front of those that were
abbrev pub back_state : BackWriter → Writer
back_state writer = record {
  written = drop writer.start writer.buffer.now;
  room = take writer.start writer.buffer.now;
  slice = writer.buffer.ghost_name;
}

-- these bytes were prepended to what was written, and the bytes in front of them are unchanged
pub record Prepends (old new : Writer) (bytes : List ℕ) : Type 0 where
  pub written : new.written ≡ bytes ++ old.written
  pub room : length old.room ≡ length new.room + length bytes
  pub unchanged : new.room ≡ take (length new.room) old.room

-- the bytes are there, and there is room for them
abbrev pub HasRoom : Option (List ℕ) → BackWriter → Type 0
HasRoom bytes writer = IsSomeAnd bytes (λ whole. length whole ≤ length (back_state writer).room)

-- the bytes were prepended
pub record HasPrepended (bytes : Option (List ℕ)) (old new : BackWriter) : Type 0 where
  pub slice : (back_state new).slice ≡ (back_state old).slice
  pub prepends : IsSomeAnd bytes (Prepends (back_state old) (back_state new))

-- the length of the bytes is returned, or Overlength if there are none
abbrev pub Measures : Option (List ℕ) → Result ℕ Error → Type 0
Measures bytes result = MatchResult result (λ n. IsSomeAnd bytes (λ whole. n ≡ length whole))
    (λ e. (e.kind ≡ Overlength) × (bytes ≡ None))
