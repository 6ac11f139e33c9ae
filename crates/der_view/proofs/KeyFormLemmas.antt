-- A key is an ECPrivateKey, whole, and each of its elements follows.
use Rattle.std.proofs.Common.{le-ltb, ◌≡◌, ℕ, zero, suc, ◌+◌, ◌<◌, ◌≤◌, Bool, true, false, List, [], ◌∷◌, ◌++◌, length}
use Rattle.std.proofs.Common.{refl, Option, Some, None, arith, eq-eqb, append_assoc, drop, length-append}
use Rattle.std.proofs.Common.{option_map, nat_lt, inl, append-nil}
use Rattle.std.specs.List.{fold}
use Rattle.std.proofs.Math.Bool.{and-false}
use Rattle.std.proofs.lemmas.Bool.Decides.{nat_tests}
use Rattle.sec1.specs.Keys.{IsKeyOf, Key, field}
use Rattle.sec1_der.specs.Elements.{element, header, length_octets}
use Rattle.sec1_der.specs.Identifiers.{content_of}
use Rattle.sec1_der.specs.Trees.{forest, joined, leaf}
use Rattle.der_view.specs.Grammar.{Component, Form, cases, components}
use Rattle.der_view.specs.Headers.{max_content_len}
use Rattle.der_view.specs.Keys.{IsContent, is_low}
use Rattle.der_view.specs.Pictures.{best, better, first_place, known_as, left_as, nearest, no_shape, picture}
use Rattle.der_view.specs.Pictures.{plan_of, root_step, rows_as, rows_by, strictly, whole_as, with_row}
use Rattle.der_view.specs.RowLaws.{AllFollow}
use Rattle.der_view.specs.Rows.{Element, EndOfContents, NotDrawn, Row, Step, admits, component_at, end_at, may_end}
use Rattle.der_view.specs.Rows.{opened_in, others_after, rest_after, rest_of, rows_of, step_at, step_rows}
use Rattle.der_view.specs.declared.grammar.Content.TheVariants as contents
use Rattle.der_view.specs.declared.grammar.Presence.TheVariants as presences
use Rattle.der_view.specs.declared.grammar.name.Name.TheVariants as names
use Rattle.der_view.specs.declared.grammar.Structure.TheVariants as structures
use Rattle.der_view.specs.declared.grammar.forms.TheConstants as tables
use Rattle.der_view.specs.declared.plan.Shape.{Shape}
use Rattle.der_view.specs.declared.plan.Way.TheVariants as ways
use Rattle.der_view.specs.declared.walk.Place.{Place}
use Rattle.der_view.proofs.KeyLemmas.{der_header, der_step, goes_on, inside_key, next_is}

-- ---- rows of bytes that follow to their end

follow_join : (first second : List Row) → AllFollow first → AllFollow second → AllFollow (first ++ second)
follow_join [] second one two = two
follow_join (Element place e ∷ first) second (here, one) two = (here, follow_join first second one two)
follow_join (EndOfContents place ∷ first) second one two = follow_join first second one two
follow_join (NotDrawn place cs len content ∷ first) second one two = absurd one

none_left : (shape : Shape) (rows : List Row) → AllFollow rows → (fold with_row shape rows).left ≡ shape.left
none_left shape [] all = refl
none_left shape (Element place e ∷ rows) (here, all) = none_left (with_row shape (Element place e)) rows all
none_left shape (EndOfContents place ∷ rows) all = none_left shape rows all
none_left shape (NotDrawn place cs len content ∷ rows) all = absurd all

-- ---- elements

-- where elements are, but for their depth
abbrev Spot : Type 0
Spot = ℕ × ℕ × Bool

abbrev place_at : ℕ → Spot → Place
place_at depth spot = record { offset = spot.0; depth = depth; end = spot.1; is_public = spot.2 }

-- bytes, as elements inside others at a depth, that follow components to their end, and so do their rows
abbrev Follows : ℕ → List Component → List ℕ → Type 0
Follows depth some bytes =
    (most : ℕ) → length bytes ≤ max_content_len → length bytes < most
    → (rest_of false most depth false some bytes ≡ Some [])
    × ((spot : Spot) → AllFollow (rows_of strictly most false (place_at depth spot) some bytes))

-- an element, and its rows
abbrev Goes : ℕ → ℕ → List Component → Step → Type 0
Goes most depth some step =
    (rest_after false most (depth + 1) step ≡ Some step.rest)
    × ((spot : Spot) → AllFollow (step_rows strictly most (place_at depth spot) some step))

-- no elements, where none has to come
ended : (depth : ℕ) (some : List Component) → may_end some ≡ true → Follows depth some []
unfolding end_at
ended depth some is zero few less = absurd (omega (arith, less))
ended depth some is (suc most) few less = (rw is refl, λ spot. rw is tt)

-- an element that can come, and the bytes after it
element_follows : (depth : ℕ) (some : List Component) (tag : ℕ) (content rest : List ℕ) (c : Component)
    (others : List Component) → nat_lt depth 64 ≡ true → is_low tag ≡ true
    → component_at tag (der_header tag (length content)) content some ≡ Some (c, others)
    → ((most : ℕ) → length content ≤ max_content_len → length content < most
    → Goes most depth some (der_step tag (length content) c others true content rest))
    → Follows depth others rest → Follows depth some (element tag content ++ rest)
unfolding step_at
element_follows depth some tag content rest c others deep low is goes next zero few less = absurd (omega (arith, less))
element_follows depth some tag content rest c others deep low is goes next (suc most) few less =
    let n : ℕ = length content in
    let size : length (element tag content ++ rest) ≡ suc (length (length_octets n) + n + length rest) =
    omega (arith, length-append (element tag content) rest, length-append (header tag n) content) in
    let all : IsContent n content rest = record { few = omega (arith, size, few); there = inl refl } in
    let found = next_is false false some tag n content rest low all in
    let step : Step = der_step tag n c others true content rest in
    let own = goes most (omega (arith, size, few)) (omega (arith, size, less)) in
    let more = next most (omega (arith, size, few)) (omega (arith, size, less)) in
    rw (append_assoc (header tag n) content rest, goes_on false some tag (length_octets n ++ (content ++ rest)), deep)
    (rw (found, le-ltb n n (omega arith), is, own.0)
    (more.0, λ spot. follow_join (step_rows strictly most (place_at depth spot) some step) _ (own.1 spot) (more.1 _)))

-- ---- an ECPrivateKey

abbrev ec_key : List Component
ec_key = components structures.EcPrivateKey

public_follows : (some : List Component) (q : Option (List ℕ)) → may_end some ≡ true
    → ((x : List ℕ) → component_at 0xA1 (der_header 0xA1 (length x)) x some
    ≡ Some ((0xA1, presences.Optional, contents.Inside structures.PublicPoint, names.PublicKey), []))
    → Follows 1 some (joined (forest (field 1 (option_map (λ bytes. leaf 0x03 (0 ∷ bytes)) q))))
unfolding cases components admits opened_in others_after
public_follows some None may is = ended 1 some may
public_follows some (Some bytes) may is =
    let x : List ℕ = element 0x03 (0 ∷ bytes) ++ [] in
    let inside = element_follows 2 (components structures.PublicPoint) 0x03 (0 ∷ bytes) [] _ [] refl refl refl
    (λ most few less. (refl, λ spot. (refl, tt))) (ended 2 [] refl) in
    element_follows 1 some 0xA1 x [] _ [] refl refl (is x)
    (λ most few less. let known = inside most few less in (rw known.0, λ spot. (refl, known.1 _))) (ended 1 [] refl)

fields_follow : (p q : Option (List ℕ)) → Follows 1 (drop 2 ec_key) (joined (forest
    (field 0 (option_map (λ arcs. leaf 0x06 (content_of arcs)) p)
    ++ field 1 (option_map (λ bytes. leaf 0x03 (0 ∷ bytes)) q))))
unfolding cases components admits opened_in others_after
fields_follow None q = public_follows (drop 2 ec_key) q refl (λ x. refl)
fields_follow (Some arcs) q =
    let x : List ℕ = element 0x06 (content_of arcs) ++ [] in
    let inside = element_follows 2 (components structures.CurveName) 0x06 (content_of arcs) [] _ [] refl refl refl
    (λ most few less. (refl, λ spot. (refl, tt))) (ended 2 [] refl) in
    element_follows 1 (drop 2 ec_key) 0xA0 x _ _ (drop 3 ec_key) refl refl refl
    (λ most few less. let known = inside most few less in (rw known.0, λ spot. (refl, known.1 _)))
    (public_follows (drop 3 ec_key) q refl (λ x. refl))

key_follows : (key : Key) → Follows 1 ec_key (inside_key key)
unfolding cases components admits opened_in others_after
key_follows key =
    element_follows 1 ec_key 0x02 (1 ∷ []) _ _ (drop 1 ec_key) refl refl refl
    (λ most few less. (refl, λ spot. (refl, tt)))
    (element_follows 1 (drop 1 ec_key) 0x04 key.private_key _ _ (drop 2 ec_key) refl refl refl
    (λ most few less. (refl, λ spot. (refl, tt))) (fields_follow key.parameters key.public_key))

-- ---- the form

best_none : (bytes : List ℕ) (first : Form) (others : List Form) → left_as first.0 bytes ≡ 0
    → whole_as false first.0 bytes ≡ true → best bytes first others ≡ first
unfolding best better
best_none bytes first [] none whole = refl
best_none bytes first (second ∷ others) none whole =
    let same : better bytes first second ≡ first = grind (arith, nat_tests, none, whole) in
    rw same (best_none bytes first others none whole)

-- ---- a key's bytes

pub record IsKnown (a : List ℕ) : Type 0 where
  pub form : (plan_of a).form ≡ Some tables.FIRST
  pub whole : (plan_of a).is_whole ≡ true
  pub way : (plan_of a).way ≡ ways.Strict
  pub rows : AllFollow (picture false a)

pub key_known : (key : Key) (a : List ℕ) → IsKeyOf key a → length a ≤ max_content_len → IsKnown a
unfolding root_step cases admits others_after plan_of known_as left_as nearest picture rows_by opened_in whole_as
    rows_as
key_known key a is few =
    let content : List ℕ = inside_key key in
    let m : ℕ = length content in
    let root : Component = tables.FIRST.0 in
    let b : List ℕ = header 0x30 m ++ content in
    let size = length-append (header 0x30 m) content in
    let short : length b ≤ max_content_len = rw is.tree.whole at few in
    let all : IsContent m content [] = record { few = omega (arith, size, short); there = inl refl } in
    let found = rw append-nil at (next_is true false (root ∷ []) 0x30 m content [] refl all) in
    let goes = key_follows key (length b) (omega (arith, size, short)) (omega (arith, size)) in
    let whole : whole_as false root b ≡ true = rw (found, and-false (nat_lt m m), goes.0) (eq-eqb m m refl) in
    let rows : AllFollow (rows_as strictly root false b) =
    rw (found, and-false (nat_lt m m), goes.0) (follow_join (step_rows strictly (length b)
    (first_place false (length b)) (root ∷ []) (der_step 0x30 m root [] true content [])) [] (refl, goes.1 _) tt) in
    rw is.tree.whole (known b whole rows)
  where
    known : (b : List ℕ) → whole_as false tables.FIRST.0 b ≡ true → AllFollow (rows_as strictly tables.FIRST.0 false b)
        → IsKnown b
    known b whole rows =
        let left : left_as tables.FIRST.0 b ≡ 0 =
        none_left no_shape (rows_as strictly tables.FIRST.0 false b) rows in
        let near : nearest b ≡ tables.FIRST = best_none b tables.FIRST tables.OTHERS left whole in
        record {
          form = rw (near, whole) refl;
          whole = rw (near, whole) refl;
          way = rw (near, whole) refl;
          rows = rw (near, whole) rows;
        }
