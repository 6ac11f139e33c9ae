-- Masks of elements with contents that differ.
use Rattle.std.proofs.Common.{◌≡◌, ℕ, Bool, true, false, List, [], length, refl, sym, ◌∙◌, Option, Some, None, arith}
use Rattle.std.proofs.Common.{not, ◌&&◌}
use Rattle.std.specs.Option.{is_some}
use Rattle.std.specs.Prelude.{is_none}
use Rattle.der_view.specs.Contents.{is_shown, shown_in, shown_len}
use Rattle.der_view.specs.Grammar.{Component, components}
use Rattle.der_view.specs.Masks.{masked, step_mask}
use Rattle.der_view.specs.Rows.{Step, admits, after_inside, front_len, inside_loose, is_followed, opened_in, rest_after}
use Rattle.der_view.specs.Rows.{rest_of}
pub use Rattle.der_view.specs.Rows.{step_as}
use Rattle.der_view.specs.declared.grammar.Content.{Content}
use Rattle.der_view.specs.declared.grammar.Content.TheVariants as contents
use Rattle.der_view.specs.declared.grammar.Structure.{Structure}
use Rattle.der_view.specs.declared.grammar.Structure.TheVariants as structures
use Rattle.der_view.specs.declared.header.Header.{Header}
use Rattle.der_view.proofs.MaskLemmas.{closed_left, some_again}
use Rattle.der_view.proofs.PictureMaskLemmas.{masks_rest}

-- any elements
abbrev pub any : List Component
any = components structures.Any

-- ---- one element

-- whether a content is any elements, or isn't shown, or is a structure of which this holds: false with one that it may
-- follow, true with one that it has to follow to the end
abbrev pub inside_content : (Bool → Structure → Bool) → Content → Bool
inside_content holds contents.Hidden = true
inside_content holds (contents.Inside s) = holds false s
inside_content holds (contents.Whole s) = holds true s
inside_content holds contents.Free = true
inside_content holds _ = false

-- what is known of contents inside an element
pub record AreInside (small : Bool) (most depth : ℕ) (holds : Bool → Structure → Bool) (header : Header) (a b : List ℕ)
    : Type 0 where
  pub definite : is_none header.content_len ≡ false
  pub len : length a ≡ length b
  pub inner : (s : Structure) (whole loose : Bool) → holds whole s ≡ true
      → masked (not whole && loose) small most depth false (components s) a
      ≡ masked (not whole && loose) small most depth false (components s) b
  pub anything : (loose : Bool) → header.tag.constructed ≡ true
      → masked loose small most depth false any a ≡ masked loose small most depth false any b
  pub unseen : (x : List ℕ) → shown_len small header contents.Free x ≡ 0

module _ (loose small : Bool) (most depth : ℕ) where
  pub record StepsAlike (p q : Step) : Type 0 where
    pub mask : step_mask loose small most depth p ≡ step_mask loose small most depth q
    pub goes : is_some (rest_after loose most depth p) ≡ is_some (rest_after loose most depth q)

  -- bytes with one mask follow all or none
  goes_alike : (some : List Component) (a b : List ℕ)
      → masked loose small most depth false some a ≡ masked loose small most depth false some b
      → is_some (rest_of loose most depth false some a) ≡ is_some (rest_of loose most depth false some b)
  goes_alike some a b same =
      let of = λ (x : List ℕ). (masks_rest small most loose false depth some x []
      (sym (closed_left loose most depth some x))).same in
      let one = of a in
      let two = of b in
      grind (arith, some_again, one, two)

after_some : (rest : List ℕ) (o : Option (List ℕ)) → is_some (after_inside false rest o) ≡ is_some o
after_some rest o = grind arith

module _ (loose small : Bool) (most depth : ℕ) (header : Header) where
  -- elements with these contents, as this component
  abbrev pub AlikeAs : Component → List ℕ → List ℕ → Type 0
  AlikeAs c a b =
      (head : List ℕ) (others : List Component) (follows : Bool) (s t : List ℕ)
      → StepsAlike loose small most depth (step_as header head c others follows a s)
      (step_as header head c others follows b t)

  -- contents that are masked alike as a component
  pub record SameContent (c : Component) (a b : List ℕ) : Type 0 where
    pub admitted : admits header c.2 a ≡ admits header c.2 b
    pub alike : AlikeAs c a b

  -- one content alone
  pub same_content : (c : Component) (a : List ℕ) → is_none header.content_len ≡ false → SameContent c a a
  same_content c a definite = record {
    admitted = refl;
    alike = λ head others follows s t. record { mask = grind arith; goes = grind (arith, definite) };
  }

  -- contents inside an element
  module _ (holds : Bool → Structure → Bool) (a b : List ℕ) (are : AreInside small most depth holds header a b) where
    abbrev opened : Content → List ℕ → Option Structure
    opened k x = opened_in (λ u y. is_followed most depth u y) loose header k x

    -- both are rows, or neither is
    both_alike : (k : Content) → inside_content holds k ≡ true → opened k a ≡ opened k b
    unfolding opened_in
    both_alike k is =
        let goes = λ (s : Structure) (e : holds true s ≡ true).
        goes_alike false small most depth (components s) a b (are.inner s true false e) in
        grind (arith, goes)

    opened_alike : (k : Content) (u : Structure) → inside_content holds k ≡ true → opened k b ≡ Some u
        → (masked (inside_loose k loose) small most depth false (components u) a
        ≡ masked (inside_loose k loose) small most depth false (components u) b) × (front_len k ≡ 0)
    unfolding opened_in
    opened_alike k u is at =
        let within = λ (s : Structure) (e : holds false s ≡ true). are.inner s false loose e in
        let whole = λ (s : Structure) (e : holds true s ≡ true). are.inner s true loose e in
        (grind (arith, within, whole, are.anything, are.definite), grind arith)

    unseen_len : (k : Content) (x : List ℕ) → inside_content holds k ≡ true → shown_len small header k x ≡ 0
    unfolding shown_len shown_in is_shown
    unseen_len k x is = grind (arith, are.unseen x)

    pub content_alike : (c : Component) → inside_content holds c.2 ≡ true → SameContent c a b
    unfolding admits
    content_alike c is = record { admitted = grind (arith, is); alike = by_opened (opened c.2 b) refl }
      where
        by_opened : (o : Option Structure) → opened c.2 b ≡ o → AlikeAs c a b
        by_opened None at = λ head others follows s t.
            let same = both_alike c.2 is ∙ at in
            let none = unseen_len c.2 a is in
            record { mask = rw (same, at, none, unseen_len c.2 b is, are.len) refl; goes = rw (same, at) refl }
        by_opened (Some u) at = λ head others follows s t.
            let same = both_alike c.2 is ∙ at in
            let (alike, front) = opened_alike c.2 u is at in
            let goes = goes_alike (inside_loose c.2 loose) small most depth (components u) a b alike in record {
              mask = rw (same, at, are.definite, front) alike;
              goes = rw (same, at, are.definite, front, after_some s, after_some t) goes;
            }
