-- The rows after masks, and the picture of bytes, which is that of all that have the same masks.
use Rattle.std.proofs.Common.{◌≡◌, ℕ, zero, suc, ◌+◌, ◌<◌, ◌≤◌, inl, inr, Bool, true, false, List, [], ◌∷◌, ◌++◌}
use Rattle.std.proofs.Common.{length, take, drop, refl, sym, ap, ◌∙◌, Option, Some, None, arith, append_assoc}
use Rattle.std.proofs.Common.{append-nil, length-append, length-drop, not, ◌-◌, ap₂}
use Rattle.std.proofs.lemmas.List.{drop_at, length-take-le, nil_from_length}
use Rattle.std.proofs.lemmas.Bool.{cond_both}
use Rattle.std.specs.Prelude.{nat_lt}
use Rattle.der_view.specs.Grammar.{Component, Form}
use Rattle.der_view.specs.Masks.{masked, next_mask, step_mask, undrawn, AreAlike, AreAlikeAs, mask_as, mask_by_way}
use Rattle.der_view.specs.Masks.{mask_with}
use Rattle.der_view.specs.Rows.{Row, Step, after, end_at, is_open, next_rows, rest_after, rest_next, rest_of, rows_of}
use Rattle.der_view.specs.Rows.{step_at, step_by}
use Rattle.der_view.specs.Pictures.{best, better, complete_by, cut_by, ended_by, first_place, is_complete, is_cut}
use Rattle.der_view.specs.Pictures.{is_last, is_public, is_retagged, is_tree, known_as, left_as, nearest, parts_as}
use Rattle.der_view.specs.Pictures.{picture, plan_as, plan_of, rest_rows, root_of, root_step, rows_as, rows_by}
use Rattle.der_view.specs.Pictures.{rows_by_way, rows_from, shape_in, strictly, whole_as, whole_by}
use Rattle.der_view.specs.declared.walk.Place.{Place}
use Rattle.der_view.specs.declared.grammar.TheConstants as elements
use Rattle.der_view.specs.declared.grammar.forms.TheConstants as tables
use Rattle.der_view.specs.declared.plan.Plan.{Plan}
use Rattle.der_view.specs.declared.plan.Way.{Way}
use Rattle.der_view.specs.declared.plan.Way.TheVariants as ways
use Rattle.der_view.proofs.MaskLemmas.{MasksRest, MasksStep, opened_masks, hidden, Inner, IsEnd, end_found, again, left}
use Rattle.der_view.proofs.MaskLemmas.{some_if, step_again, tail_len, undrawn_at}
use Rattle.der_view.proofs.StepLemmas.{BeginsWith, step_found, undrawn_len, undrawn_no_step}

-- ---- where a level ends

-- by its first bytes
end_front : (loose marked : Bool) (some : List Component) (n : ℕ) (bytes more : List ℕ) → 1 < n → n ≤ length bytes
    → end_at loose marked some (take n bytes ++ more) ≡ end_at loose marked some bytes
unfolding end_at
end_front loose marked some (suc (suc n)) (a ∷ b ∷ bytes) more two few = refl
end_front loose marked some n bytes more two few = absurd (omega (arith, two, few))

undrawn_end : (loose marked : Bool) (some : List Component) (bytes : List ℕ) → end_at loose marked some bytes ≡ None
    → end_at loose marked some (undrawn bytes) ≡ None
unfolding end_at
undrawn_end loose marked some bytes is = grind arith

-- ---- the next element

-- an element of a mask, with these bytes after its content
abbrev pub next_step : Bool → Bool → ℕ → ℕ → Step → List ℕ → Step
next_step loose small most depth step t =
    step_again (is_open step) step (step_mask loose small most (depth + 1) step) t

abbrev pub next_bytes : Bool → Bool → ℕ → ℕ → Step → List ℕ → List ℕ
next_bytes loose small most depth step t = step.head ++ (step_mask loose small most (depth + 1) step ++ t)

-- bytes that begin with an element, and those of its mask
pub record BeginsMasked (cut misfit loose small : Bool) (most depth : ℕ) (some : List Component) (bytes : List ℕ)
    (step : Step) (t : List ℕ) : Type 0 where
  pub masks : MasksStep loose small most depth step (next_step loose small most depth step t)
      (step_mask loose small most (depth + 1) step) t
  pub is : step_by cut misfit some (next_bytes loose small most depth step t)
      ≡ Some (next_step loose small most depth step t)
  pub len : length (next_bytes loose small most depth step t) ≡ length bytes
  pub end : (l marked : Bool) → end_at l marked some (next_bytes loose small most depth step t)
      ≡ end_at l marked some bytes

pub begins_masked : (cut misfit loose small : Bool) (most depth : ℕ) (some : List Component) (bytes : List ℕ)
    (step : Step) (t : List ℕ) → BeginsWith cut misfit some bytes step → Inner small most
    → length t ≡ tail_len step (rest_after loose most (depth + 1) step)
    → BeginsMasked cut misfit loose small most depth some bytes step t
begins_masked cut misfit loose small most depth some bytes step t b inner size =
    let m : List ℕ = step_mask loose small most (depth + 1) step in
    let next : Step = next_step loose small most depth step t in
    let masks = opened_masks loose small most depth step b.taken inner t size in
    let head = ap length b.head ∙ length-take-le step.header.len bytes b.within in
    let parts = ap length masks.parts ∙ length-append next.content next.rest in
    record {
      masks = masks;
      is = ap (λ (x : List ℕ). step_by cut misfit some (step.head ++ x)) masks.parts
          ∙ b.again next.content next.rest masks.stays masks.rest_len;
      len = length-append step.head (m ++ t) ∙ omega (arith, head, parts, masks.stays.len, masks.rest_len, b.len);
      end = λ l marked. ap (λ (x : List ℕ). end_at l marked some (x ++ (m ++ t))) b.head
          ∙ end_front l marked some step.header.len bytes (m ++ t) b.two b.within;
    }

-- ---- levels

module _ (loose small : Bool) (most depth : ℕ) (marked : Bool) (some : List Component) (bytes : List ℕ)
    (inner : Inner small most) where
  abbrev Has : List ℕ → Option (List ℕ) → Type 0
  Has other left_is = MasksRest loose small (suc most) depth marked some bytes other left_is

  -- an end, at the same place
  ended : (n : ℕ) (r : List ℕ) → IsEnd marked bytes n → end_at loose marked some bytes ≡ Some n
      → length r ≡ length (drop n bytes) → Has (take n bytes ++ r) (Some r)
  ended n r (inl (none, empty)) is size =
      let nothing = nil_from_length r (rw (none, empty) at size) in let end = rw (none, empty) at is in
      rw (none, empty, nothing) (record { len = refl; same = rw end refl; rows = λ place. refl })
  ended n r (inr (two, few, _)) is size =
      let within : n ≤ length bytes = omega (arith, two, few) in
      let end = end_front loose marked some n bytes r (omega (arith, two)) within ∙ is in
      let front = length-take-le n bytes within in let back = length-drop n bytes in
      let len = length-append (take n bytes) r ∙ omega (arith, front, back, size, within) in
      record { len = len; same = rw (end, drop_at (take n bytes) r n front) refl; rows = λ place. rw (end, is) refl }

  -- the bytes and the rows after an element of the level
  abbrev rest_next_of : Step → Option (List ℕ) → Option (List ℕ)
  rest_next_of step o = rest_next (λ rest. rest_of loose most depth marked step.others rest) o

  abbrev rows_next_of : Place → Step → Option (List ℕ) → List Row
  rows_next_of place step o =
      next_rows (λ rest. rows_of (hidden loose small) most marked (after (record place { depth = depth }) bytes rest)
      step.others rest) o

  abbrev tail_of : Step → List ℕ → Option (List ℕ) → List ℕ
  tail_of step r o = next_mask step.rest (λ rest. masked loose small most depth marked step.others rest) o ++ r

  -- what comes after an element of the level
  tail_has : (step : Step) (r : List ℕ) (o : Option (List ℕ)) → length r ≡ left (rest_next_of step o)
      → (length (tail_of step r o) ≡ tail_len step o)
      × (rest_next_of step (again (tail_of step r o) o) ≡ again r (rest_next_of step o))
      × ((place : Place) → rows_next_of place step (again (tail_of step r o) o) ≡ rows_next_of place step o)
  tail_has step r None size =
      let join = length-append (undrawn step.rest) r in
      (omega (arith, undrawn_len step.rest, size), refl, λ place. refl)
  tail_has step r (Some rest) size =
      let known = inner loose marked depth step.others rest r size in
      (known.len, known.same, λ place. rw known.len (known.rows (after place bytes rest)))

  -- an element, and what comes after it
  step_has : (step : Step) (r : List ℕ) → end_at loose marked some bytes ≡ None
      → step_at loose depth some bytes ≡ Some step
      → length r ≡ left (rest_next_of step (rest_after loose most (depth + 1) step))
      → Has (next_bytes loose small most depth step (tail_of step r (rest_after loose most (depth + 1) step)))
      (again r (rest_next_of step (rest_after loose most (depth + 1) step)))
  unfolding step_at
  step_has step r is at size =
      let t : List ℕ = tail_of step r (rest_after loose most (depth + 1) step) in
      let (len, rest, rows) = tail_has step r (rest_after loose most (depth + 1) step) size in
      let (few, found) = some_if (nat_lt depth 64) (step_by loose loose some bytes) step at in
      let begins = step_found loose loose some bytes step found in
      let b = begins_masked loose loose loose small most depth some bytes step t begins inner len in
      let other : List ℕ = next_bytes loose small most depth step t in
      let next : Step = next_step loose small most depth step t in
      let end : end_at loose marked some other ≡ None = b.end loose marked ∙ is in
      let next_is : step_at loose depth some other ≡ Some next = rw few b.is in
      record {
        len = b.len;
        same = rw (end, next_is, b.masks.after) rest;
        rows = λ place.
            rw (end, next_is, is, at) (ap₂ (λ (x y : List Row). x ++ y) (b.masks.rows place some)
            (rw (b.masks.after, b.len) (rows place)));
      }

  level_has : (o : Option ℕ) (q : Option Step) → end_at loose marked some bytes ≡ o
      → step_at loose depth some bytes ≡ q
      → (r : List ℕ) → length r ≡ left (rest_of loose (suc most) depth marked some bytes)
      → Has (masked loose small (suc most) depth marked some bytes ++ r)
      (again r (rest_of loose (suc most) depth marked some bytes))
  level_has (Some n) q is at r size =
      rw is (ended n r (end_found loose marked some bytes n is) is (rw is at size))
  level_has None None is at r size =
      let end = undrawn_end loose marked some bytes is in
      let stop = undrawn_at loose depth some bytes in
      rw (is, at, nil_from_length r (rw (is, at) at size), append-nil (undrawn bytes))
      (record { len = undrawn_len bytes; same = rw (end, stop) refl; rows = λ place. rw (end, stop, is, at) refl })
  level_has None (Some step) is at r size =
      rw (is, at, append_assoc, append_assoc) (step_has step r is at (rw (is, at) at size))

pub masks_rest : (small : Bool) (most : ℕ) → Inner small most
masks_rest small zero loose marked depth some bytes r size =
    rw (nil_from_length r size, append-nil (undrawn bytes))
    (record { len = undrawn_len bytes; same = refl; rows = λ place. refl })
masks_rest small (suc most) loose marked depth some bytes r size =
    level_has loose small most depth marked some bytes (masks_rest small most) (end_at loose marked some bytes)
    (step_at loose depth some bytes) refl refl r size

-- ---- the root

-- the mask of what comes after a root
abbrev rest_mask : Step → Option (List ℕ) → List ℕ
rest_mask step o = next_mask step.rest (λ rest. undrawn rest) o

rest_mask_len : (step : Step) (o : Option (List ℕ)) → length (rest_mask step o) ≡ tail_len step o
rest_mask_len step o = grind (arith, undrawn_len)

module _ (loose small : Bool) (root : Component) (bytes : List ℕ) where
  abbrev root_like : Step → Step
  root_like step = next_step loose small (length bytes) 0 step (rest_mask step (rest_after loose (length bytes) 1 step))

  -- a root and its mask
  abbrev IsRoot : Step → Type 0
  IsRoot step =
      BeginsMasked true false loose small (length bytes) 0 (root ∷ []) bytes step
      (rest_mask step (rest_after loose (length bytes) 1 step))

  -- what is the same of a root and its mask is the same of bytes and theirs
  of_mask : {A : Type 0} (f : ℕ → Option Step → A)
      → ((step : Step) → IsRoot step → f (length bytes) (Some (root_like step)) ≡ f (length bytes) (Some step))
      → f (length (mask_as loose small root bytes)) (root_step root (mask_as loose small root bytes))
      ≡ f (length bytes) (root_step root bytes)
  unfolding root_step mask_as
  of_mask f same = by_root (step_by true false (root ∷ []) bytes) refl
    where
      by_root : (o : Option Step) → step_by true false (root ∷ []) bytes ≡ o
          → f (length (mask_with loose small bytes o)) (step_by true false (root ∷ []) (mask_with loose small bytes o))
          ≡ f (length bytes) o
      by_root None is = rw (undrawn_len bytes, undrawn_no_step true false (root ∷ []) bytes) refl
      by_root (Some step) is =
          let begins = step_found true false (root ∷ []) bytes step is in
          let b = begins_masked true false loose small (length bytes) 0 (root ∷ []) bytes step _ begins
          (masks_rest small (length bytes)) (rest_mask_len step (rest_after loose (length bytes) 1 step)) in
          rw (b.len, b.is) (same step b)

  pub mask_as_len : length (mask_as loose small root bytes) ≡ length bytes
  mask_as_len = of_mask (λ n o. n) (λ step r. refl)

  pub rows_of_mask : (public : Bool) → rows_as (hidden loose small) root public (mask_as loose small root bytes)
      ≡ rows_as (hidden loose small) root public bytes
  unfolding rows_as
  rows_of_mask public = of_mask (λ n o. rows_from (hidden loose small) root (first_place public n) n o) (λ step r.
      ap₂ (λ (x y : List Row). x ++ y) (r.masks.rows place (root ∷ []))
      (ap tail r.masks.after ∙ after_same step (rest_after loose (length bytes) 1 step)))
    where
      place : Place
      place = first_place public (length bytes)

      tail : Option (List ℕ) → List Row
      tail o = next_rows (λ rest. rest_rows (hidden loose small)
          (record place { offset = length bytes - length rest }) rest) o

      after_same : (step : Step) (o : Option (List ℕ)) → tail (again (rest_mask step o) o) ≡ tail o
      after_same step o = grind (arith, undrawn_len)

  complete_same : (step : Step) → IsRoot step → is_complete (root_like step) ≡ is_complete step
  complete_same step r = ap (λ (n : ℕ). complete_by step.header.content_len n) r.masks.stays.len

  pub whole_of_mask : whole_as loose root (mask_as loose small root bytes) ≡ whole_as loose root bytes
  unfolding whole_as
  whole_of_mask = of_mask (λ n o. whole_by loose n o) (λ step r. rw r.masks.after
      (ended_same step (root_like step) (rest_after loose (length bytes) 1 step) (complete_same step r)))
    where
      ended_same : (step next : Step) (o : Option (List ℕ)) → is_complete next ≡ is_complete step
          → ended_by next (again (rest_mask step o) o) ≡ ended_by step o
      ended_same step next o same = grind (arith, same)

cut_of_mask : (bytes : List ℕ) → is_cut (mask_as false false elements.ELEMENT bytes) ≡ is_cut bytes
unfolding is_cut
cut_of_mask bytes = of_mask false false elements.ELEMENT bytes (λ n o. cut_by o)
    (λ step r. ap (λ (b : Bool). not b) (complete_same false false elements.ELEMENT bytes step r))

-- ---- bytes that are alike

-- what is the same of bytes and their mask is the same of bytes that have one mask
alike : {A : Type 0} (f : List ℕ → A) (loose small : Bool) (root : Component) (a b : List ℕ)
    → ((x : List ℕ) → f (mask_as loose small root x) ≡ f x)
    → mask_as loose small root a ≡ mask_as loose small root b → f a ≡ f b
alike f loose small root a b of same = sym (of a) ∙ (ap f same ∙ of b)

rows_alike : (loose small public : Bool) (root : Component) (a b : List ℕ)
    → mask_as loose small root a ≡ mask_as loose small root b
    → rows_as (hidden loose small) root public a ≡ rows_as (hidden loose small) root public b
rows_alike loose small public root a b =
    alike (λ x. rows_as (hidden loose small) root public x) loose small root a b
    (λ x. rows_of_mask loose small root x public)

-- bytes as a form
same_as : (root : Component) (a b : List ℕ) → mask_as false false root a ≡ mask_as false false root b
    → (rows_as strictly root false a ≡ rows_as strictly root false b) × (whole_as false root a ≡ whole_as false root b)
same_as root a b same = (
  rows_alike false false false root a b same,
  alike (λ x. whole_as false root x) false false root a b (whole_of_mask false false root) same,
)

counts_alike : (root : Component) (a b : List ℕ) → rows_as strictly root false a ≡ rows_as strictly root false b
    → (left_as root a ≡ left_as root b) × (parts_as root a ≡ parts_as root b)
unfolding left_as parts_as
counts_alike root a b same =
    (ap (λ (rows : List Row). (shape_in rows).left) same, ap (λ (rows : List Row). (shape_in rows).parts) same)

retagged_alike : (a b : List ℕ) → rows_as strictly elements.ELEMENT false a ≡ rows_as strictly elements.ELEMENT false b
    → is_retagged a ≡ is_retagged b
unfolding is_retagged
retagged_alike a b same = ap (λ (rows : List Row). is_last (shape_in rows).progress) same

better_alike : (a b : List ℕ) (first second : Form) → mask_as false false first.0 a ≡ mask_as false false first.0 b
    → mask_as false false second.0 a ≡ mask_as false false second.0 b → better a first second ≡ better b first second
unfolding better
better_alike a b first second one two =
    let same = same_as first.0 a b one in
    let other = same_as second.0 a b two in
    rw ((counts_alike first.0 a b same.0).0, (counts_alike second.0 a b other.0).0, same.1, other.1) refl

-- the form that is chosen is the same, and of this the masks are
best_alike : (a b : List ℕ) (first : Form) (others : List Form)
    → mask_as false false first.0 a ≡ mask_as false false first.0 b → AreAlikeAs others a b
    → (best a first others ≡ best b first others)
    × (mask_as false false (best b first others).0 a ≡ mask_as false false (best b first others).0 b)
unfolding best better
best_alike a b first [] one same = (refl, one)
best_alike a b first (second ∷ others) one (two, same) =
    let next = best_alike a b (better b first second) others (cond_both _ second first
    (λ form. mask_as false false form.0 a ≡ mask_as false false form.0 b) (λ _. two) (λ _. one)) same in
    (ap (λ (form : Form). best a form others) (better_alike a b first second one two) ∙ next.0, next.1)

len_alike : (a b : List ℕ) → AreAlike a b → length a ≡ length b
len_alike a b same =
    alike (λ x. length x) false false elements.ELEMENT a b (mask_as_len false false elements.ELEMENT) same.elements

plan_as_alike : (form : Form) (a b : List ℕ) → AreAlike a b
    → mask_as false false form.0 a ≡ mask_as false false form.0 b → plan_as form a ≡ plan_as form b
unfolding known_as is_tree
plan_as_alike form a b same one =
    let known = same_as form.0 a b one in
    let tree = same_as elements.ELEMENT a b same.elements in
    let cut = alike (λ x. is_cut x) false false elements.ELEMENT a b cut_of_mask same.elements in
    rw (
      (counts_alike form.0 a b known.0).1,
      known.1,
      retagged_alike a b tree.0,
      tree.1,
      cut,
      len_alike a b same,
    ) refl

pub plan_alike : (a b : List ℕ) → AreAlike a b → plan_of a ≡ plan_of b
unfolding plan_of nearest
plan_alike a b same =
    let chosen = best_alike a b tables.FIRST tables.OTHERS same.first same.others in
    ap (λ (form : Form). plan_as form a) chosen.0
    ∙ plan_as_alike (best b tables.FIRST tables.OTHERS) a b same chosen.1

by_way_alike : (plan : Plan) (way : Way) (a b : List ℕ) → plan.way ≡ way → length a ≡ length b
    → mask_by_way way plan a ≡ mask_by_way way plan b
    → rows_by_way way plan false a ≡ rows_by_way way plan false b
by_way_alike plan ways.Strict a b is len same =
    rw is (rows_alike false false (is_public plan) (root_of plan.form) a b same)
by_way_alike plan ways.Loose a b is len same =
    rw is (rows_alike true plan.is_tree (is_public plan) (root_of plan.form) a b same)
by_way_alike plan ways.Nothing a b is len same = grind arith

pub picture_alike : (a b : List ℕ) → AreAlike a b → picture false a ≡ picture false b
unfolding picture rows_by
picture_alike a b same =
    by_way_alike (plan_of a) (plan_of a).way a b refl (len_alike a b same) same.drawn
    ∙ ap (λ (plan : Plan). rows_by plan false b) (plan_alike a b same)
