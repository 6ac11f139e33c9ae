-- What a reader says of the bytes that were taken, call by call.
use Rattle.std.proofs.Common.{◌<◌, ℕ, List, [], ◌++◌, length, Option}
use Rattle.std.proofs.KnownBytes.{Consumes-nil, Consumes-trans, Consumes-kept, Appends-nil, Appends-trans, Appends-kept}
use Rattle.std.specs.Io.KnownBytes.{Keeps}
use Rattle.sec1_der.specs.Streams.{Takes}

-- what was taken, and then more, was taken together
pub takes_more : {S : Type 0} (left taken : S → Option (List ℕ)) (old mid new : S) (bytes more : List ℕ)
    → Takes left taken old mid bytes → Takes left taken mid new more → Takes left taken old new (bytes ++ more)
takes_more left taken old mid new bytes more first next = search (Consumes-trans, Appends-trans)

-- nothing is taken where nothing happens
pub takes_nothing : {S : Type 0} (left taken : S → Option (List ℕ)) (reader : S) → Takes left taken reader reader []
takes_nothing left taken reader = search (Consumes-nil, Appends-nil)

-- a call that keeps what is known takes nothing more
pub takes_kept : {S : Type 0} (left taken : S → Option (List ℕ)) (old mid new : S) (bytes : List ℕ)
    → Takes left taken old mid bytes → Keeps (left mid) (left new) → Keeps (taken mid) (taken new)
    → Takes left taken old new bytes
takes_kept left taken old mid new bytes first left_kept taken_kept = search (Consumes-kept, Appends-kept)

-- fewer than n bytes were read
abbrev pub TakesFewer : (List ℕ → Type 0) → ℕ → Type 0
TakesFewer Taken n = (bytes : List ℕ) × Taken bytes × (length bytes < n)
