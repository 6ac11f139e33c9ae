-- The element that bytes begin with, with another content and other bytes after it.
use Rattle.std.proofs.Common.{◌≡◌, ℕ, zero, suc, ◌+◌, ◌<◌, ◌≤◌, Bool, true, false, List, [], ◌∷◌, ◌++◌, length, take}
use Rattle.std.proofs.Common.{drop, refl, sym, ap, ◌∙◌, Option, Some, None, Ok, Result, arith, length-append}
use Rattle.std.proofs.Common.{append-nil, take-append-drop}
use Rattle.std.proofs.lemmas.Bool.Decides.{nat_tests}
use Rattle.std.proofs.lemmas.List.{length-take-le as take-len, length-drop, nil_from_length, take_at, drop_at}
use Rattle.std.proofs.lemmas.List.{length-replicate}
use Rattle.der_view.specs.Grammar.{Component}
use Rattle.der_view.specs.Headers.{header_of}
use Rattle.der_view.specs.Masks.{undrawn, zeros}
use Rattle.der_view.specs.Rows.{Step, admits, component_by, element_at, element_by, fitting, others_after, parts_by}
use Rattle.der_view.specs.Rows.{step_by, step_made, step_with}
use Rattle.der_view.specs.declared.grammar.Content.{Content}
use Rattle.der_view.specs.declared.grammar.TheConstants as tables
use Rattle.der_view.specs.declared.header.ElementFault.{ElementFault}
use Rattle.der_view.specs.declared.header.Header.{Header}
use Rattle.der_view.proofs.HeaderLemmas.{header_front}

-- the same element, with another content and other bytes after it
abbrev pub step_like : Step → List ℕ → List ℕ → Step
step_like step m r = record step { content = m; rest = r }

-- a content that is taken for the same component
pub record Stays (step : Step) (m : List ℕ) : Type 0 where
  pub len : length m ≡ length step.content
  pub follows : step.follows ≡ true → admits step.header step.component.2 m ≡ true
  pub misfits : step.follows ≡ false → (k : Content) → admits step.header k step.content ≡ false
      → admits step.header k m ≡ false
  pub chosen : (others : List Component) → others_after step.header step.component m others
      ≡ others_after step.header step.component step.content others

-- what is known of an element that comes next
pub record IsTaken (step : Step) : Type 0 where
  pub admitted : step.follows ≡ true → admits step.header step.component.2 step.content ≡ true
  pub free : step.follows ≡ false → step.component ≡ tables.ELEMENT
  pub last : step.header.content_len ≡ None → step.rest ≡ []

-- what is known of bytes that begin with an element
pub record BeginsWith (cut misfit : Bool) (some : List Component) (bytes : List ℕ) (step : Step) : Type 0 where
  pub two : 1 < step.header.len
  pub within : step.header.len ≤ length bytes
  pub len : length bytes ≡ step.header.len + (length step.content + length step.rest)
  pub head : step.head ≡ take step.header.len bytes
  pub taken : IsTaken step
  pub again :
      (m r : List ℕ) → Stays step m → length r ≡ length step.rest
      → step_by cut misfit some (step.head ++ (m ++ r)) ≡ Some (step_like step m r)

-- the header of the next element, its parts, and its component
record IsMade (cut misfit : Bool) (bytes : List ℕ) (h : Result Header ElementFault)
    (o : Option (Component × List Component)) (step : Step) : Type 0 where
  header : h ≡ Ok step.header
  parts : parts_by cut bytes step.header step.header.content_len ≡ Some (step.header, step.content, step.rest)
  made : step_made misfit bytes (step.header, step.content, step.rest) (component_by step.header step.content o)
      ≡ Some step
  head : step.head ≡ take step.header.len bytes
  admitted : step.follows ≡ true → admits step.header step.component.2 step.content ≡ true
  free : step.follows ≡ false → step.component ≡ tables.ELEMENT

made : (cut misfit : Bool) (tag : ℕ) (some : List Component) (bytes : List ℕ) (h : Result Header ElementFault)
    (step : Step) → step_with misfit tag some bytes (element_by cut bytes h) ≡ Some step
    → IsMade cut misfit bytes h (fitting tag some) step
made cut misfit tag some bytes h step is = grind arith

-- the parts are as long as what comes after the header, and other ones are those of other bytes
parts_are : (cut : Bool) (bytes : List ℕ) (header : Header) (o : Option ℕ) (content rest : List ℕ)
    → parts_by cut bytes header o ≡ Some (header, content, rest)
    → (length (drop header.len bytes) ≡ length content + length rest) × (o ≡ None → rest ≡ [])
    × ((others m r : List ℕ) → drop header.len others ≡ m ++ r → length m ≡ length content → length r ≡ length rest
    → parts_by cut others header o ≡ Some (header, m, r))
parts_are cut bytes header o content rest is = grind (
  arith,
  nat_tests,
  nil_from_length {X = ℕ},
  append-nil {A = ℕ},
  length-append {A = ℕ},
  take-len {A = ℕ},
  length-drop {A = ℕ},
  take_at,
  drop_at,
)

made_again : (misfit : Bool) (bytes others m r : List ℕ) (o : Option (Component × List Component)) (step : Step)
    → step_made misfit bytes (step.header, step.content, step.rest) (component_by step.header step.content o)
    ≡ Some step → take step.header.len others ≡ step.head → Stays step m
    → step_made misfit others (step.header, m, r) (component_by step.header m o) ≡ Some (step_like step m r)
made_again misfit bytes others m r o step is same stays = grind (arith, stays.follows, stays.misfits, stays.chosen)

step_from : (cut misfit : Bool) (n tag : ℕ) (tail more : List ℕ) (some : List Component) → 1 < n
    → step_by cut misfit some (take n (tag ∷ tail) ++ more) ≡ step_with misfit tag some (take n (tag ∷ tail) ++ more)
    (element_at cut (take n (tag ∷ tail) ++ more))
unfolding step_by
step_from cut misfit zero tag tail more some two = absurd (omega (arith, two))
step_from cut misfit (suc n) tag tail more some two = refl

pub step_found : (cut misfit : Bool) (some : List Component) (bytes : List ℕ) (step : Step)
    → step_by cut misfit some bytes ≡ Some step → BeginsWith cut misfit some bytes step
unfolding step_by
step_found cut misfit some [] step is = absurd (cc is)
step_found cut misfit some (tag ∷ tail) step is =
    let bytes : List ℕ = tag ∷ tail in
    let n : ℕ = step.header.len in
    let s = made cut misfit tag some bytes (header_of bytes) step is in
    let (two, within, _) = header_front [] bytes [] step.header s.header in
    let (len, last, parts) = parts_are cut bytes step.header step.header.content_len step.content step.rest s.parts in
    let size : length (take n bytes) ≡ n = take-len n bytes within in
    record {
      two = two;
      within = within;
      len = omega (arith, within, len, length-drop n bytes);
      head = s.head;
      taken = record { admitted = s.admitted; free = s.free; last = last };
      again = λ m r stays more.
          let other : List ℕ = take n bytes ++ (m ++ r) in
          let old : header_of (take n bytes ++ drop n bytes) ≡ Ok step.header =
          ap header_of (take-append-drop n bytes) ∙ s.header in
          let new = header_front (take n bytes) (drop n bytes) (m ++ r) step.header old in
          ap (λ (x : List ℕ). step_by cut misfit some (x ++ (m ++ r))) s.head
          ∙ (step_from cut misfit n tag tail (m ++ r) some two
          ∙ (ap (λ (h : Result Header ElementFault). step_with misfit tag some other (element_by cut other h))
          (new.2 (omega arith))
          ∙ (ap (λ (e : Option (Header × List ℕ × List ℕ)). step_with misfit tag some other e)
          (parts other m r (drop_at (take n bytes) (m ++ r) n size) stays.len more)
          ∙ made_again misfit bytes other m r (fitting tag some) step s.made
          (take_at (take n bytes) (m ++ r) n size ∙ sym s.head) stays)));
    }

-- ---- bytes that aren't drawn

pub undrawn_no_step : (cut misfit : Bool) (some : List Component) (bytes : List ℕ)
    → step_by cut misfit some (undrawn bytes) ≡ None
unfolding step_by
undrawn_no_step cut misfit some [] = refl
undrawn_no_step cut misfit some (a ∷ []) = refl
undrawn_no_step cut misfit some (a ∷ b ∷ []) = refl
undrawn_no_step cut misfit some (a ∷ b ∷ c ∷ []) = refl
undrawn_no_step cut misfit some (a ∷ b ∷ c ∷ d ∷ []) = refl
undrawn_no_step cut misfit some (a ∷ b ∷ c ∷ d ∷ e ∷ bytes) = refl

pub zeros_no_step : (cut misfit : Bool) (some : List Component) (bytes : List ℕ)
    → step_by cut misfit some (zeros bytes) ≡ None
unfolding step_by
zeros_no_step cut misfit some [] = refl
zeros_no_step cut misfit some (byte ∷ bytes) = refl

pub zeros_len : (bytes : List ℕ) → length (zeros bytes) ≡ length bytes
zeros_len bytes = length-replicate (length bytes) 0x00

pub undrawn_len : (bytes : List ℕ) → length (undrawn bytes) ≡ length bytes
undrawn_len bytes = length-replicate (length bytes) 0xFF
