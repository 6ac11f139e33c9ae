-- The rows of bytes are those of their mask, whatever as many bytes come after it.
use Rattle.std.proofs.Common.{◌≡◌, ◌&&◌, ℕ, zero, suc, ◌+◌, ◌≤◌, Bool, true, false, List, [], ◌∷◌, ◌++◌, length, take}
use Rattle.std.proofs.Common.{drop, refl, sym, ap, ◌∙◌, Option, Some, None, arith, ◌⊎◌, inl, inr, append-nil}
use Rattle.std.proofs.Common.{append_assoc, length-append, length-drop, take-append-drop}
use Rattle.std.proofs.lemmas.List.{drop_at, length-take-le}
use Rattle.std.specs.Prelude.{if◌then◌else◌, is_none}
use Rattle.std.specs.Option.{is_some}
use Rattle.der_view.specs.Contents.{is_shown, is_small, is_valid, shown_in, shown_len}
use Rattle.der_view.specs.Grammar.{Component, components, identifiers, cases}
use Rattle.der_view.specs.Masks.{masked, masked_content, undrawn, zeros, step_mask}
use Rattle.der_view.specs.Rows.{How, Step, admits, are_bits, end_at, front_len, has_bits, is_followed, is_of, opened_in}
use Rattle.der_view.specs.Rows.{rest_of, rows_of, step_at, after_inside, chosen, inside_bytes, inside_loose, is_open}
use Rattle.der_view.specs.Rows.{inside, opened_of, others_after, rest_after, step_rows}
use Rattle.der_view.specs.declared.grammar.Content.{Content}
use Rattle.der_view.specs.declared.grammar.Content.TheVariants as contents
use Rattle.der_view.specs.declared.grammar.family.Family.{Family}
use Rattle.der_view.specs.declared.grammar.Structure.{Structure}
use Rattle.der_view.specs.declared.header.Header.{Header}
use Rattle.der_view.specs.declared.header.Tag.{Tag}
use Rattle.der_view.specs.declared.walk.Place.{Place}
use Rattle.der_view.proofs.StepLemmas.{step_like, undrawn_no_step, zeros_len, zeros_no_step, IsTaken, Stays}

-- ---- what is shown of a content

pub some_if : {A : Type 0} (test : Bool) (o : Option A) (x : A) → (if test then o else None) ≡ Some x
    → (test ≡ true) × (o ≡ Some x)
some_if test o x is = grind arith

pub no_len : (o : Option ℕ) → is_none o ≡ true → o ≡ None
no_len o is = grind arith

zeros_valid : (tag : Tag) (x : List ℕ) → is_valid tag x ≡ false → is_valid tag (zeros x) ≡ false
unfolding is_valid
zeros_valid tag [] is = is
zeros_valid tag (a ∷ []) is = grind arith
zeros_valid tag (a ∷ b ∷ x) is = grind (arith, zeros_len x)

-- a content of zeros isn't shown where another isn't, unless it has no byte
zeros_shown : (small : Bool) (tag : Tag) (k : Content) (x : List ℕ) → is_shown small tag k x ≡ false
    → is_shown small tag k (zeros x) ≡ false
unfolding is_shown is_small
zeros_shown small tag k [] is = is
zeros_shown small tag k (a ∷ []) is = grind (arith, zeros_valid tag (a ∷ []))
zeros_shown small tag k (a ∷ b ∷ x) is = grind (arith, zeros_valid tag (a ∷ b ∷ x), zeros_len x)

masked_len : (n : ℕ) (x : List ℕ) → length (masked_content n x) ≡ length x
masked_len n x = grind (arith, length-append {A = ℕ}, take-append-drop {A = ℕ}, zeros_len)

all_masked : (x : List ℕ) → masked_content (length x) x ≡ x
all_masked [] = refl
all_masked (a ∷ x) = ap (λ (y : List ℕ). a ∷ y) (all_masked x)

take_masked : (n : ℕ) (x : List ℕ) → take n (masked_content n x) ≡ take n x
take_masked zero x = refl
take_masked (suc n) [] = refl
take_masked (suc n) (a ∷ x) = ap (λ (y : List ℕ). a ∷ y) (take_masked n x)

content_shown : (small : Bool) (header : Header) (k : Content) (x : List ℕ)
    → take (shown_len small header k (masked_content (shown_len small header k x) x))
    (masked_content (shown_len small header k x) x) ≡ take (shown_len small header k x) x
unfolding shown_len shown_in
content_shown small header k x = grind (arith, masked_len, take_masked, all_masked x, zeros_shown small header.tag k x)

-- of an element with a component the same is shown anywhere
pub surely_shown : (small : Bool) (header : Header) (k : Content) (x : List ℕ)
    → take (shown_len false header k (masked_content (shown_len small header k x) x))
    (masked_content (shown_len small header k x) x) ≡ take (shown_len false header k x) x
unfolding shown_len shown_in is_shown
surely_shown small header contents.Free x = grind arith
surely_shown small header k x = content_shown small header k x

-- ---- what is inside an element

abbrev pub left : Option (List ℕ) → ℕ
left None = 0
left (Some rest) = length rest

abbrev pub again : List ℕ → Option (List ℕ) → Option (List ℕ)
again r None = None
again r (Some rest) = Some r

-- the rules of a mask: nothing is given
abbrev pub hidden : Bool → Bool → How
hidden loose small = record { loose = loose; small = small; given = [] }

-- as many other bytes for those of a level, after which these are left
pub record MasksRest (loose small : Bool) (most depth : ℕ) (marked : Bool) (some : List Component)
    (bytes other : List ℕ) (left_is : Option (List ℕ)) : Type 0 where
  pub len : length other ≡ length bytes
  pub same : rest_of loose most depth marked some other ≡ left_is
  pub rows : (place : Place) → rows_of (hidden loose small) most marked (record place { depth = depth }) some other
      ≡ rows_of (hidden loose small) most marked (record place { depth = depth }) some bytes

-- levels of so many elements: their masks, before as many other bytes after the level
abbrev pub Inner : Bool → ℕ → Type 0
Inner small most =
    (loose marked : Bool) (depth : ℕ) (some : List Component) (bytes r : List ℕ)
    → length r ≡ left (rest_of loose most depth marked some bytes)
    → MasksRest loose small most depth marked some bytes (masked loose small most depth marked some bytes ++ r)
    (again r (rest_of loose most depth marked some bytes))

-- an element whose bytes after it are others, as long
abbrev pub tail_len : Step → Option (List ℕ) → ℕ
tail_len step None = length step.rest
tail_len step (Some rest) = length rest

-- an indefinite content has the bytes after it
abbrev pub step_again : Bool → Step → List ℕ → List ℕ → Step
step_again marked step m t = step_like step (if marked then m ++ t else m) (if marked then [] else t)

-- of a content that is rows nothing is shown, and it is taken for what it is whatever its bytes
pub record IsRows (header : Header) (k : Content) : Type 0 where
  pub shown : (small : Bool) (x : List ℕ) → shown_len small header k x ≡ 0
  pub alike : (x y : List ℕ) → admits header k x ≡ admits header k y
  pub free : k ≡ contents.Free → (c : Content) (x y : List ℕ) → admits header c x ≡ admits header c y

pub taken_fits : (step : Step) → IsTaken step → admits step.header step.component.2 step.content ≡ true
unfolding admits
taken_fits step taken = grind (arith, taken.admitted, taken.free)

module _ (loose : Bool) (most depth : ℕ) (step : Step) where
  pub opened_rows : (s : Structure) → opened_of loose most depth step ≡ Some s → IsRows step.header step.component.2
  unfolding opened_in shown_len shown_in admits is_shown
  opened_rows s is =
      record { shown = λ small y. grind arith; alike = λ y z. grind arith; free = λ e c y z. grind arith }

  -- a content that is no rows has a definite length
  pub closed_content : IsTaken step → opened_of loose most depth step ≡ None → is_open step ≡ false
  unfolding opened_in admits
  closed_content taken is = grind (arith, taken_fits step taken)

  -- the bytes before the elements of a content are there
  pub front_within : (s : Structure) → opened_of loose most depth step ≡ Some s
      → front_len step.component.2 ≤ length step.content
  unfolding opened_in
  front_within s is = grind arith

-- a content whose mask has zeros is taken for the same component: no identifier begins with 0
zeros_other : (family : Family) (x : List ℕ) → is_of (identifiers family) (zeros x) ≡ false
unfolding identifiers
zeros_other family [] = grind arith
zeros_other family (a ∷ x) = grind arith

pub kept_fits : (small : Bool) (header : Header) (k : Content) (x : List ℕ) → admits header k x ≡ true
    → admits header k (masked_content (shown_len small header k x) x) ≡ true
unfolding admits shown_len shown_in is_shown
kept_fits small header k x is = grind (arith, masked_len, all_masked x)

-- of an element without a component all or nothing is shown
pub kept_misfits : (small : Bool) (header : Header) (k : Content) (x : List ℕ) → admits header k x ≡ false
    → admits header k (masked_content (shown_len small header contents.Free x) x) ≡ false
unfolding shown_len shown_in admits
kept_misfits small header k x is = grind (arith, all_masked x, zeros_len x, zeros_other)

-- ---- the bytes after a level

-- at the end of the bytes, or at an end-of-contents
abbrev pub IsEnd : Bool → List ℕ → ℕ → Type 0
IsEnd marked bytes n = ((n ≡ 0) × (bytes ≡ [])) ⊎ ((n ≡ 2) × (2 ≤ length bytes) × (marked ≡ true))

pub end_found : (loose marked : Bool) (some : List Component) (bytes : List ℕ) (n : ℕ)
    → end_at loose marked some bytes ≡ Some n → IsEnd marked bytes n
unfolding end_at
end_found loose marked some [] n is = inl (grind arith, refl)
end_found loose marked some (a ∷ []) n is = absurd (cc is)
end_found loose marked some (a ∷ b ∷ bytes) n is = inr (grind arith, omega arith, grind arith)

pub closed_left : (loose : Bool) (most depth : ℕ) (some : List Component) (bytes : List ℕ)
    → left (rest_of loose most depth false some bytes) ≡ 0
unfolding end_at
closed_left loose zero depth some bytes = refl
closed_left loose (suc most) depth some bytes = grind (arith, closed_left loose most depth)

pub undrawn_at : (loose : Bool) (depth : ℕ) (some : List Component) (x : List ℕ)
    → step_at loose depth some (undrawn x) ≡ None
unfolding step_at
undrawn_at loose depth some x = grind (arith, undrawn_no_step loose loose some x)

-- zeros don't follow
zeros_never : (most depth : ℕ) (s : Structure) (a : ℕ) (x : List ℕ) → is_followed most depth s (zeros (a ∷ x)) ≡ false
unfolding end_at step_at
zeros_never zero depth s a x = refl
zeros_never (suc most) depth s a [] = grind (arith, zeros_no_step false false (components s) (a ∷ []))
zeros_never (suc most) depth s a (b ∷ x) = grind (arith, zeros_no_step false false (components s) (a ∷ b ∷ x))

zeros_followed : (most depth : ℕ) (s : Structure) (x : List ℕ) → is_followed most depth s x ≡ false
    → is_followed most depth s (zeros x) ≡ false
zeros_followed most depth s [] is = is
zeros_followed most depth s (a ∷ x) is = zeros_never most depth s a x

zeros_bits : (most depth : ℕ) (s : Structure) (x : List ℕ)
    → are_bits (λ u y. is_followed most depth u y) s (zeros x) ≡ false
zeros_bits most depth s (a ∷ b ∷ x) = zeros_never most depth s b x
zeros_bits most depth s x = refl

-- a number of unused bits before others
bits_same : (n : ℕ) (x r content : List ℕ) → content ≡ take n x ++ r → length r ≡ length (drop n x) → n ≡ 1
    → has_bits content ≡ has_bits x
bits_same n x r content is size one = grind arith

-- ---- one element

-- an element of a level at this depth whose content is masked, with others for the bytes after it
pub record MasksStep (loose small : Bool) (most depth : ℕ) (step next : Step) (m t : List ℕ) : Type 0 where
  pub stays : Stays step next.content
  pub rest_len : length next.rest ≡ length step.rest
  pub after : rest_after loose most (depth + 1) next ≡ again t (rest_after loose most (depth + 1) step)
  pub parts : m ++ t ≡ next.content ++ next.rest
  pub rows : (place : Place) (some : List Component)
      → step_rows (hidden loose small) most (record place { depth = depth }) some next
      ≡ step_rows (hidden loose small) most (record place { depth = depth }) some step

-- what is shown of a content decides what comes after it
pub chosen_same : (header : Header) (c : Component) (x m : List ℕ)
    → take (shown_len false header c.2 m) m ≡ take (shown_len false header c.2 x) x
    → (others : List Component) → others_after header c m others ≡ others_after header c x others
unfolding others_after
chosen_same header c x m same others = ap (λ (y : List ℕ). chosen (cases c.3) y others) same

free_kind : (step : Step) → IsTaken step → step.follows ≡ false → contents.Free ≡ step.component.2
free_kind step taken is = ap (λ (c : Component). c.2) (sym (taken.free is))

-- the mask of a content that is no rows is none
none_kept : (loose small : Bool) (most depth : ℕ) (header : Header) (k : Content) (x : List ℕ)
    → opened_in (λ s y. is_followed most depth s y) loose header k x ≡ None
    → opened_in (λ s y. is_followed most depth s y) loose header k (masked_content (shown_len small header k x) x)
    ≡ None
unfolding opened_in shown_len shown_in is_shown
none_kept loose small most depth header k x is = grind (arith, zeros_followed, zeros_bits)

pub some_again : (u : List ℕ) (o : Option (List ℕ)) → is_some (again u o) ≡ is_some o
some_again u o = grind arith

-- what follows a structure to its end does so with as much after it
rows_kept : (loose : Bool) (most depth : ℕ) (header : Header) (k : Content) (s : Structure) (x m u : List ℕ)
    → opened_in (λ c y. is_followed most depth c y) loose header k x ≡ Some s → admits header k x ≡ true
    → (front_len k ≡ 1 → has_bits m ≡ has_bits x)
    → rest_of (inside_loose k loose) most depth (is_none header.content_len) (components s) (drop (front_len k) m)
    ≡ again u (rest_of (inside_loose k loose) most depth (is_none header.content_len) (components s)
    (drop (front_len k) x))
    → opened_in (λ c y. is_followed most depth c y) loose header k m ≡ Some s
unfolding opened_in admits
rows_kept loose most depth header (contents.Whole t) s x m u is fits bits same =
    let known = some_if (is_some (rest_of false most depth false (components t) x)) (Some t) s is in
    grind (arith, some_again, known)
rows_kept loose most depth header (contents.Bits t) s x m u is fits bits same =
    let whole : Bool = is_some (rest_of false most depth false (components t) (drop 1 x)) in
    let known = some_if (has_bits x && whole) (Some t) s is in
    grind (arith, some_again, known)
rows_kept loose most depth header k s x m u is fits bits same = is

after_same : (marked : Bool) (o : Option (List ℕ)) (r rest t u : List ℕ) → (if marked then u else rest) ≡ t
    → after_inside marked rest (again u o) ≡ again t (after_inside marked r o)
after_same marked o r rest t u is = grind arith

module _ (loose small : Bool) (most depth : ℕ) (step : Step) (taken : IsTaken step) (inner : Inner small most) where
  -- what is inside it as a structure: the bytes after that, and its mask
  abbrev rest_at : Structure → Option (List ℕ)
  rest_at s =
      rest_of (inside_loose step.component.2 loose) most (depth + 1) (is_open step) (components s) (inside_bytes step)

  abbrev mask_at : Structure → List ℕ
  mask_at s =
      masked (inside_loose step.component.2 loose) small most (depth + 1) (is_open step) (components s)
      (inside_bytes step)

  -- an element whose content is rows: with the mask of these, and u for the bytes after them
  rows_masks : (s : Structure) (content rest t u : List ℕ) → opened_of loose most (depth + 1) step ≡ Some s
      → content ≡ take (front_len step.component.2) step.content ++ (mask_at s ++ u)
      → step_mask loose small most (depth + 1) step ++ t ≡ content ++ rest → length rest ≡ length step.rest
      → length u ≡ left (rest_at s) → (if is_open step then u else rest) ≡ t
      → MasksStep loose small most depth step (step_like step content rest)
      (step_mask loose small most (depth + 1) step) t
  rows_masks s content rest t u some is parts size left_len tail =
      let k : Content = step.component.2 in
      let n : ℕ = front_len k in
      let x : List ℕ = step.content in
      let few = front_within loose most (depth + 1) step s some in
      let front : length (take n x) ≡ n = length-take-le n x few in
      let back : drop n content ≡ mask_at s ++ u = rw is (drop_at (take n x) (mask_at s ++ u) n front) in
      let known =
      inner (inside_loose k loose) (is_open step) (depth + 1) (components s) (inside_bytes step) u left_len in
      let len : length content ≡ length x =
      omega (arith, ap length is, length-append (take n x) (mask_at s ++ u), known.len, length-drop n x) in
      let same = rw (← back) at known.same in
      let rows : IsRows step.header k = opened_rows loose most (depth + 1) step s some in
      let kept : opened_of loose most (depth + 1) (step_like step content rest) ≡ Some s =
      rows_kept loose most (depth + 1) step.header k s x content u some (taken_fits step taken)
      (bits_same n x (mask_at s ++ u) content is known.len) same in
      record {
        stays = record {
          len = len;
          follows = λ e. rows.alike content x ∙ taken.admitted e;
          misfits = λ e c misfit. rows.free (sym (free_kind step taken e)) c content x ∙ misfit;
          chosen = chosen_same step.header step.component x content
              (rw (rows.shown false content, rows.shown false x) refl);
        };
        rest_len = size;
        after = rw (kept, some, same) (after_same (is_open step) _ step.rest rest t u tail);
        parts = parts;
        rows = λ place cs.
            let inside_is = known.rows (inside (record place { depth = depth }) step) in
            rw (kept, some, len, rows.shown small content, rows.shown small x, back, inside_is) refl;
      }

  pub opened_masks : (t : List ℕ) → length t ≡ tail_len step (rest_after loose most (depth + 1) step)
      → MasksStep loose small most depth step
      (step_again (is_open step) step (step_mask loose small most (depth + 1) step) t)
      (step_mask loose small most (depth + 1) step) t
  opened_masks t size = by_opened (opened_of loose most (depth + 1) step) (is_open step) refl refl
    where
      m : List ℕ
      m = step_mask loose small most (depth + 1) step

      by_opened : (o : Option Structure) (b : Bool) → opened_of loose most (depth + 1) step ≡ o → is_open step ≡ b
          → MasksStep loose small most depth step (step_again b step m t) m t
      by_opened None true none opens =
          absurd (cc (sym opens ∙ closed_content loose most (depth + 1) step taken none))
      by_opened None false none opens =
          let k : Content = step.component.2 in
          let x : List ℕ = step.content in
          let n : ℕ = shown_len small step.header k x in
          let plain : m ≡ masked_content n x = rw none refl in
          let kept : opened_of loose most (depth + 1) (step_like step (masked_content n x) t) ≡ None =
          none_kept loose small most (depth + 1) step.header k x none in
          let rest : rest_after loose most (depth + 1) step ≡ Some step.rest = rw none refl in
          let shown = content_shown small step.header k x in
          rw plain (record {
            stays = record {
              len = masked_len n x;
              follows = λ e. kept_fits small step.header k x (taken.admitted e);
              misfits = λ e c misfit. rw (free_kind step taken e) at (kept_misfits small step.header c x misfit);
              chosen = chosen_same step.header step.component x (masked_content n x)
                  (surely_shown small step.header k x);
            };
            rest_len = size ∙ ap (λ (o : Option (List ℕ)). tail_len step o) rest;
            after = rw (kept, none) refl;
            parts = refl;
            rows = λ place cs. rw (kept, none, masked_len n x, shown) refl;
          })
      by_opened (Some s) false some opens =
          let plain : m ≡ take (front_len step.component.2) step.content ++ (mask_at s ++ []) =
          rw (some, append-nil (mask_at s)) refl in
          let known = rw (some, opens) at size in
          rows_masks s m t t [] some plain refl (grind (arith, known)) (rw opens (sym (closed_left _ _ _ _ _)))
          (rw opens refl)
      by_opened (Some s) true some opens =
          let none : step.rest ≡ [] = taken.last (no_len step.header.content_len opens) in
          let plain : m ++ t ≡ take (front_len step.component.2) step.content ++ (mask_at s ++ t) =
          rw some (append_assoc (take (front_len step.component.2) step.content) (mask_at s) t) in
          let known = rw (some, opens, none) at size in
          rows_masks s (m ++ t) [] t t some plain (sym (append-nil (m ++ t))) (ap length (sym none))
          (rw opens (grind (arith, known))) (rw opens refl)
