-- The table has each curve once: the first one with a curve's content, or with one of its names, is that curve.
use Rattle.std.proofs.Common.{◌≡◌, ap, refl, inl, inr, lit<, ℕ, List, Option, Some, None, Bool, true, false, ◌||◌}
use Rattle.std.proofs.lemmas.Bool.Decides.{Decides-or}
use Rattle.std.proofs.lemmas.Slice.Eq.{bytes_eq-Decides}
use Rattle.std.specs.Bool.{Decides}
use Rattle.std.specs.Option.{unwrap_or}
use Rattle.std.specs.Prelude.{Contains, find, option_map, position}
use Rattle.std.specs.Str.{bytes_eq}
use Rattle.sec1_der.proofs.IdentifierLaws.{is_identifier-true, identifier_content-valid}
use Rattle.sec1_der.specs.Identifiers.{content_of, identifier_content}
use Rattle.sec1_der.proofs.IdentifierLaws.{is_identifier}
use Rattle.curves.specs.Curves.{curve_arcs, curve_content, curve_name, curve_alias, x962_name, IsNameOf}
use Rattle.curves.specs.declared.curve.Curve.{Curve}
use Rattle.curves.specs.declared.curve.Curve.TheVariants as curves
use Rattle.curves.specs.declared.curve.TheConstants.Curve.{ALL}

-- whether the text is the one of a choice
abbrev pub is_text : List ℕ → Option (List ℕ) → Bool
is_text text None = false
is_text text (Some other) = bytes_eq other text

is_text-decides : (text : List ℕ) (o : Option (List ℕ)) → Decides (is_text text o) (o ≡ Some text)
is_text-decides text None = (λ e. absurd (cc e), λ e. absurd (cc e))
is_text-decides text (Some other) =
    let d = bytes_eq-Decides other text in
    (λ e. ap Some (d.0 e), λ e. d.1 (cc e))

-- whether a curve has this content
unfoldable pub has_content : List ℕ → Curve → Bool
has_content content curve = bytes_eq (curve_content curve) content

-- whether a curve has this name
unfoldable pub has_name : List ℕ → Curve → Bool
has_name text curve =
    bytes_eq text (curve_name curve) || (is_text text (curve_alias curve) || is_text text (x962_name curve))

-- the test of a name is exact
pub has_name-decides : (text : List ℕ) (curve : Curve) → Decides (has_name text curve) (IsNameOf text curve)
unfolding has_name
has_name-decides text curve =
    Decides-or _ _ (bytes_eq-Decides text (curve_name curve))
    (Decides-or _ _ (is_text-decides text (curve_alias curve)) (is_text-decides text (x962_name curve)))

-- a curve's place in the table
abbrev place : Curve → ℕ
place curve = unwrap_or (position (λ other. bytes_eq (curve_content other) (curve_content curve)) ALL) 0

-- the table has each curve
pub all_curves : (curve : Curve) → Contains ALL curve
all_curves curves.Secp112r1 = (place curves.Secp112r1, lit< tt, refl)
all_curves curve = (place curve, lit< tt, refl)

-- a curve is the first one with its content
pub find-has_content : (curve : Curve) → find (has_content (curve_content curve)) ALL ≡ Some curve
unfolding has_content
find-has_content curves.Secp112r1 = refl
find-has_content curve = refl

find-curve_name : (curve : Curve) → find (has_name (curve_name curve)) ALL ≡ Some curve
unfolding has_name
find-curve_name curves.Secp112r1 = refl
find-curve_name curve = refl

-- whether each text of a choice finds this curve first
abbrev FindsFirst : Option (List ℕ) → Curve → Type 0
FindsFirst o curve = option_map (λ text. find (has_name text) ALL) o ≡ option_map (λ text. Some curve) o

find-curve_alias : (curve : Curve) → FindsFirst (curve_alias curve) curve
unfolding has_name
find-curve_alias curves.Secp112r1 = refl
find-curve_alias curve = refl

find-x962_name : (curve : Curve) → FindsFirst (x962_name curve) curve
unfolding has_name
find-x962_name curves.Secp112r1 = refl
find-x962_name curve = refl

chosen : (text : List ℕ) (curve : Curve) (o : Option (List ℕ)) → FindsFirst o curve → o ≡ Some text
    → find (has_name text) ALL ≡ Some curve
chosen text curve o same is = cc (rw is at same)

-- a curve is the first one with any of its names
pub find-has_name : (text : List ℕ) (curve : Curve) → IsNameOf text curve → find (has_name text) ALL ≡ Some curve
find-has_name text curve (inl is) = rw is (find-curve_name curve)
find-has_name text curve (inr (inl is)) = chosen text curve (curve_alias curve) (find-curve_alias curve) is
find-has_name text curve (inr (inr is)) = chosen text curve (x962_name curve) (find-x962_name curve) is

-- no two curves have one content
pub one_content : (a b : Curve) → curve_content a ≡ curve_content b → a ≡ b
one_content a b same =
    let first = find-has_content a in
    let second = find-has_content b in
    cc (first, second, same)

-- no two curves have one name
pub one_name : (a b : Curve) (text : List ℕ) → IsNameOf text a → IsNameOf text b → a ≡ b
one_name a b text first second = cc (find-has_name text a first, find-has_name text b second)

-- no two curves have one identifier
pub one_identifier : (a b : Curve) → curve_arcs a ≡ curve_arcs b → a ≡ b
one_identifier a b same = one_content a b (ap content_of same)

is_identifier-curve_arcs : (curve : Curve) → is_identifier (curve_arcs curve) ≡ true
is_identifier-curve_arcs curves.Secp112r1 = refl
is_identifier-curve_arcs curve = refl

-- a curve's identifier has the curve's content
pub content-curve_arcs : (curve : Curve) (content : List ℕ) → curve_content curve ≡ content
    → identifier_content (curve_arcs curve) ≡ Some content
content-curve_arcs curve content same =
    let own = is_identifier-true (curve_arcs curve) (is_identifier-curve_arcs curve) in
    identifier_content-valid (curve_arcs curve) content (rw (← same) own)
