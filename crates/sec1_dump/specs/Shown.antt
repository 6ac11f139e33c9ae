-- What a run of the program shows of a file.
use Rattle.std.specs.Prelude.{◌≡◌, ◌≤◌, ℕ, Bool, true, if◌then◌else◌}
use Rattle.std.specs.Prelude.{List, [], ◌++◌, chars, codes, length, Option, Some, Result, Ok, Err}
use Rattle.std.specs.Prelude.{⊤}
use Rattle.std.specs.Io.KnownBytes.{Appends}
use Rattle.der_view.specs.Characters.{escaped_all}
use Rattle.der_view.specs.Drawings.{has_key, picture_text}
use Rattle.der_view.specs.Printing.{are_plain}
use Rattle.sec1_dump.specs.declared.output.Failure.{Failure}
use Rattle.sec1_dump.specs.declared.output.Failure.TheVariants.{Memory, Output}
use Rattle.sec1_dump.specs.declared.output.Style.{Style}

-- the greatest length of an input in bytes
abbrev pub limit : ℕ
limit = 16777215

-- whether the failure is one of writing what is shown
abbrev pub IsOfWriting : Failure → Type 0
IsOfWriting (Output error) = ⊤
IsOfWriting Memory = ⊤
IsOfWriting failure = ⊥

-- the line with the name of a file above its pictures, if it is to be there
abbrev pub title : Bool → Option (List ℕ) → List ℕ
title true (Some file) = escaped_all (chars file) ++ codes ":\n"
title named file = []

-- The input isn't too long, and some part of it is a key, or none is. Of pictures in rows of all of
-- it: they were written, below the name of the file.
pub record Shows (style : Style) (file : Option (List ℕ)) (input : List ℕ)
    (old new : Option (List ℕ)) (found : Bool) : Type 0 where
  pub short : length input ≤ limit
  pub key : style.options.offset ≡ 0 → found ≡ has_key input
  pub appended :
      are_plain style.options ≡ true
      → Appends old new (title style.named file ++ picture_text style.options.all input)

-- the status for a file: 0 if it has a key, 1 if it has none, 2 if it couldn't be read or shown
abbrev pub status_of : Result Bool Failure → ℕ
status_of (Ok has_key) = if has_key then 0 else 1
status_of (Err failure) = 2
