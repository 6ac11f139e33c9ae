-- Masks of elements in DER whose contents differ, of what is around them, and of inputs with private keys.
use Rattle.std.proofs.Common.{eqb-true, ◌≡◌, ◌==◌, ◌&&◌, ℕ, zero, suc, ◌+◌, ◌<◌, ◌≤◌, Bool, true, false, List, [], ◌∷◌}
use Rattle.std.proofs.Common.{◌++◌, length, take, drop, refl, sym, ap, ◌∙◌, Option, Some, None, arith, length-append}
use Rattle.std.proofs.Common.{append_assoc, append-nil, inl, inr, ◌-◌, ◌%◌, if◌then◌else◌, Ok, not, drop_at}
use Rattle.std.proofs.Common.{length-take, take_at, is_some, nat_lt, take-append-drop, replicate, option_map}
use Rattle.std.proofs.lemmas.List.{nil_from_length, drop_all}
use Rattle.der_view.specs.Rows.{is_open, rest_after, Step, component_at, end_at, fitting, others_after, step_at}
use Rattle.der_view.specs.Rows.{step_by}
use Rattle.std.proofs.lemmas.Bool.Decides.{nat_tests}
use Rattle.sec1_der.specs.Elements.{header, length_octets, number_of, element}
use Rattle.der_view.specs.Contents.{shown_len, has_type, is_number, is_small, shown_in, is_shown}
use Rattle.der_view.specs.Grammar.{Component, cases, components, Form}
use Rattle.der_view.specs.Headers.{max_content_len, length_at, tag_of}
use Rattle.der_view.specs.Keys.{AreLevels, AreParts, DifferIn, IsContent, IsCutIn, Level, Part, is_low, key_in}
use Rattle.der_view.specs.Keys.{parts_before, AreUnseen, integers, key_bytes}
use Rattle.std.proofs.Math.Seq.{take-append-add}
use Rattle.der_view.specs.Pictures.{root_step, best, better, known_as, nearest, plan_of, root_of}
use Rattle.der_view.specs.Masks.{mask_as, mask_with, masked, next_mask, step_mask, undrawn, AreAlike, AreAlikeAs}
use Rattle.der_view.specs.Masks.{mask_by_way}
use Rattle.der_view.specs.declared.grammar.Content.{Content}
use Rattle.der_view.specs.declared.grammar.Content.TheVariants as contents
use Rattle.der_view.specs.declared.grammar.TheConstants as elements
use Rattle.der_view.specs.declared.grammar.Structure.{Structure}
use Rattle.der_view.specs.declared.header.Header.{Header}
use Rattle.der_view.proofs.SameLemmas.{SameContent, any, content_alike, inside_content, same_content, step_as}
use Rattle.std.proofs.lemmas.Int.Digits.{length-digits_of_step, length-digits_of-le, number_digits_of}
use Rattle.std.specs.Int.Digits.{digits_of}
use Rattle.std.proofs.lemmas.Bool.{agree_below, agree_below_at, and_parts}
use Rattle.der_view.specs.declared.grammar.forms.TheConstants as tables
use Rattle.der_view.specs.declared.plan.Plan.{Plan}
use Rattle.sec1.specs.Keys.{IsKeyOf, Key, field}
use Rattle.sec1_der.specs.Identifiers.{content_of}
use Rattle.sec1_der.specs.Trees.{forest, joined, leaf}
use Rattle.std.specs.Option.{option_map_or}

-- ---- an element in DER

-- the length of a content in DER
length_in_der : (n : ℕ) (rest : List ℕ) → n ≤ max_content_len
    → length_at (length_octets n ++ rest) ≡ Ok (Some n, length (length_octets n))
unfolding length_octets
length_in_der n rest few =
    let digits : List ℕ = digits_of 256 n in
    let most : length digits ≤ 4 = length-digits_of-le 256 4 n (omega arith) (omega arith) in
    let number : number_of digits ≡ n = number_digits_of 256 n (omega arith) in
    grind (arith, nat_tests, length-digits_of_step 256 n, length-append digits rest, take_at digits rest)

-- the header of an element of n bytes
abbrev pub der_header : ℕ → ℕ → Header
der_header tag n =
    record { tag = tag_of tag (tag % 0x20); tag_len = 1; len = 1 + length (length_octets n); content_len = Some n }

-- such an element, as one component
abbrev pub der_step : (tag n : ℕ) → Component → List Component → Bool → List ℕ → List ℕ → Step
der_step tag n c others follows content rest =
    step_as (der_header tag n) (header tag n) c others follows content rest

abbrev pub der_made : Bool → ℕ → ℕ → List ℕ → List ℕ → Option (Component × List Component) → Option Step
der_made misfit tag n content rest (Some (c, others)) = Some (der_step tag n c others true content rest)
der_made misfit tag n content rest None =
    if misfit then Some (der_step tag n elements.ELEMENT any false content rest) else None

-- the next element of bytes that begin with its header, of which all comes or the bytes end in it
pub next_is : (cut misfit : Bool) (some : List Component) (tag n : ℕ) (a s : List ℕ) → is_low tag ≡ true
    → IsContent n a s → step_by cut misfit some (header tag n ++ (a ++ s))
    ≡ (if nat_lt (length a) n && not cut then None
    else der_made misfit tag n a s (component_at tag (der_header tag n) a some))
unfolding step_by components
next_is cut misfit some tag n a s low is =
    let head : List ℕ = header tag n in
    let x : List ℕ = a ++ s in
    grind (
      arith,
      nat_tests,
      length_in_der n x is.few,
      take_at head x,
      drop_at head x,
      length-append a s,
      take_at a s n,
      drop_at a s n,
      append-nil a,
    )

-- no level ends at a header
pub goes_on : (loose : Bool) (some : List Component) (byte : ℕ) (bytes : List ℕ)
    → end_at loose false some (byte ∷ bytes) ≡ None
unfolding end_at
goes_on loose some byte bytes = grind arith

-- ---- bytes and contents that are masked alike

abbrev pub Same : List Component → List ℕ → List ℕ → Type 0
Same cs x y =
    (loose small : Bool) (most depth : ℕ)
    → masked loose small most depth false cs x ≡ masked loose small most depth false cs y

-- as any components of which this holds
pub record Alike (holds : List Component → Bool) (x y : List ℕ) : Type 0 where
  pub len : length x ≡ length y
  pub anything : holds any ≡ true
  pub masks : (cs : List Component) → holds cs ≡ true → Same cs x y

-- as any content of which this holds
pub record Unseen (fine : Content → Bool) (header : Header) (a b : List ℕ) : Type 0 where
  pub len : length a ≡ length b
  pub anything : fine contents.Free ≡ true
  pub same :
      (c : Component) → fine c.2 ≡ true → (loose small : Bool) (most depth : ℕ)
      → SameContent loose small most depth header c a b

abbrev pub goes_by : (Content → Bool) → (List Component → Bool) → Option (Component × List Component) → Bool
goes_by fine holds None = true
goes_by fine holds (Some found) = length (cases found.0.3) == 0 && (fine found.0.2 && holds found.1)

-- whether these hold of the content of an element with this tag, which doesn't decide what comes
-- after it, and of the components after it, if it follows
abbrev pub goes : ℕ → (Content → Bool) → (List Component → Bool) → List Component → Bool
goes tag fine holds some = goes_by fine holds (fitting tag some)

fixed_after : (h : Header) (c : Component) (x : List ℕ) (others : List Component) → (length (cases c.3) == 0) ≡ true
    → others_after h c x others ≡ others
unfolding others_after
fixed_after h c x others is = rw (nil_from_length (cases c.3) (eqb-true (length (cases c.3)) 0 is)) refl

-- the mask of what comes after an element of a definite length
next_by : (loose : Bool) (most depth : ℕ) (step : Step) (f : List ℕ → List ℕ) → is_open step ≡ false
    → next_mask step.rest f (rest_after loose most depth step)
    ≡ (if is_some (rest_after loose most depth step) then f step.rest else undrawn step.rest)
next_by loose most depth step f definite = grind (arith, definite)

-- Two elements with one header and contents that are masked alike, or as much of these as is there, and the bytes
-- after them.
module _ {fine : Content → Bool} {holds : List Component → Bool} (tag n : ℕ) {a b s t : List ℕ}
    (low : is_low tag ≡ true) (is : IsContent n a s) (content : Unseen fine (der_header tag n) a b)
    (rest : Alike holds s t) where
  abbrev first : List ℕ
  first = header tag n ++ (a ++ s)

  abbrev second : List ℕ
  second = header tag n ++ (b ++ t)

  size_same : length (length_octets n ++ (a ++ s)) ≡ length (length_octets n ++ (b ++ t))
  size_same = simp (length-append, content.len, rest.len)

  pub undrawn_same : undrawn first ≡ undrawn second
  undrawn_same = rw size_same refl

  -- what is the same of both as any component is the same of what bytes that begin with them begin with
  next_alike : (f g : Option Step → List ℕ) → f None ≡ g None
      → ((c : Component) (others : List Component) (follows : Bool) → fine c.2 ≡ true → holds others ≡ true
      → f (Some (der_step tag n c others follows a s)) ≡ g (Some (der_step tag n c others follows b t)))
      → (deep cut misfit : Bool) (some : List Component) → goes tag fine holds some ≡ true
      → f (if deep then step_by cut misfit some first else None)
      ≡ g (if deep then step_by cut misfit some second else None)
  next_alike f g none steps deep cut misfit some good =
      let also : IsContent n b t = record {
        few = is.few;
        there = grind (arith, is.there, content.len, rest.len, nil_from_length t);
      } in
      let misfits = steps elements.ELEMENT any false content.anything rest.anything in
      let admitted = λ (c : Component) (known : fine c.2 ≡ true). (content.same c known false false 0 0).admitted in
      rw (next_is cut misfit some tag n a s low is, next_is cut misfit some tag n b t low also, ← content.len)
      (grind (arith, none, misfits, admitted, fixed_after, steps))

  -- their masks, and those of the bytes after them
  module _ (loose small : Bool) (most depth : ℕ) (next : List Component → List ℕ → List ℕ)
      (same : (others : List Component) → holds others ≡ true → next others s ≡ next others t) where
    abbrev drawn : List ℕ → Option Step → List ℕ
    drawn bytes step =
        option_map_or (λ p. p.head ++ (step_mask loose small most depth p
        ++ next_mask p.rest (λ rest. next p.others rest) (rest_after loose most depth p))) step (undrawn bytes)

    step_alike : (c : Component) (others : List Component) (follows : Bool) → fine c.2 ≡ true → holds others ≡ true
        → drawn first (Some (der_step tag n c others follows a s))
        ≡ drawn second (Some (der_step tag n c others follows b t))
    step_alike c others follows known good =
        let p : Step = der_step tag n c others follows a s in
        let q : Step = der_step tag n c others follows b t in
        let alike = (content.same c known loose small most depth).alike (header tag n) others follows s t in
        rw (next_by loose most depth p (next others) refl, next_by loose most depth q (next others) refl, alike.mask)
        (rw (alike.goes, same others good, rest.len))

    level_alike : (deep cut misfit : Bool) (some : List Component) → goes tag fine holds some ≡ true
        → drawn first (if deep then step_by cut misfit some first else None)
        ≡ drawn second (if deep then step_by cut misfit some second else None)
    level_alike = next_alike (drawn first) (drawn second) undrawn_same step_alike

  masked_same : (cs : List Component) → goes tag fine holds cs ≡ true → Same cs first second
  unfolding step_at
  masked_same cs is loose small zero depth = undrawn_same
  masked_same cs is loose small (suc most) depth =
      rw (goes_on loose cs tag (length_octets n ++ (a ++ s)), goes_on loose cs tag (length_octets n ++ (b ++ t)))
      (level_alike loose small most (depth + 1) (λ others rest. masked loose small most depth false others rest)
      (λ others good. rest.masks others good loose small most depth) (nat_lt depth 64) loose loose cs is)

  -- as a root, whose mask ends with it
  pub root_alike : (root : Component) → goes tag fine holds (root ∷ []) ≡ true → (loose small : Bool)
      → mask_as loose small root first ≡ mask_as loose small root second
  unfolding mask_as root_step
  root_alike root is loose small =
      next_alike (mask_with loose small first) (mask_with loose small second) undrawn_same
      (λ c others follows known good. rw size_same (step_alike loose small (length second) 1
      (λ others rest. undrawn rest) (λ others good. rw rest.len refl) c others follows known good))
      true true false (root ∷ []) is

  pub element_alike : Alike (goes tag fine holds) first second
  unfolding cases components
  element_alike =
      record { len = ap suc size_same; anything = grind (arith, content.anything, rest.anything); masks = masked_same }

-- ---- elements before it

abbrev pub everything : List Component → Bool
everything cs = true

pub same_alike : (x : List ℕ) → Alike everything x x
same_alike x = record { len = refl; anything = refl; masks = λ cs is loose small most depth. refl }

-- whether this holds of the components after elements with these tags, if such follow
abbrev pub passed : (List Component → Bool) → List ℕ → List Component → Bool
passed holds [] = holds
passed holds (tag ∷ tags) = goes tag (λ k. true) (passed holds tags)

abbrev pub tags_of : List Part → List ℕ
tags_of [] = []
tags_of (part ∷ parts) = part.0 ∷ tags_of parts

-- elements, one with such a content, and the same bytes after it
pub hole_alike : (fine : Content → Bool) (before : List Part) (tag n : ℕ) (a b s : List ℕ) → AreParts before
    → is_low tag ≡ true → IsContent n a s → Unseen fine (der_header tag n) a b
    → Alike (passed (goes tag fine everything) (tags_of before)) (parts_before before (header tag n ++ (a ++ s)))
    (parts_before before (header tag n ++ (b ++ s)))
hole_alike fine [] tag n a b s are low is content = element_alike tag n low is content (same_alike s)
hole_alike fine ((g, x) ∷ parts) tag n a b s (first, few, are) low is content =
    simp append_assoc
    (element_alike {fine = λ k. true} g (length x) first (record { few = few; there = inl refl }) (record {
      len = refl;
      anything = refl;
      same = λ c known loose small most depth. same_content loose small most depth (der_header g (length x)) c x refl;
    }) (hole_alike fine parts tag n a b s are low is content))

-- ---- contents

-- of an element of this tag and length nothing is shown in a whole tree
abbrev pub IsShut : ℕ → ℕ → Type 0
IsShut tag n = (small : Bool) (x : List ℕ) → shown_len small (der_header tag n) contents.Free x ≡ 0

-- a content that is any elements, or a structure of which this holds, or isn't shown
abbrev pub inside : (List Component → Bool) → Content → Bool
inside holds k = inside_content (λ whole s. holds (components s)) k

-- contents that are masked alike as a structure, or as one that they have to follow to the end
abbrev SameAs : Bool → Structure → List ℕ → List ℕ → Type 0
SameAs whole s a b =
    (loose small : Bool) (most depth : ℕ)
    → masked (not whole && loose) small most depth false (components s) a
    ≡ masked (not whole && loose) small most depth false (components s) b

content_unseen : (holds : Bool → Structure → Bool) (tag n : ℕ) (a b : List ℕ) → length a ≡ length b → IsShut tag n
    → ((whole : Bool) (s : Structure) → holds whole s ≡ true → SameAs whole s a b)
    → ((der_header tag n).tag.constructed ≡ true → Same any a b) → Unseen (inside_content holds) (der_header tag n) a b
content_unseen holds tag n a b size shut inner other = record {
  len = size;
  anything = refl;
  same = λ c is loose small most depth. content_alike loose small most depth (der_header tag n) holds a b
      (record {
        definite = refl;
        len = size;
        inner = λ s whole l known. inner whole s known l small most depth;
        anything = λ l made. other made l small most depth;
        unseen = shut small;
      }) c is;
}

pub inside_unseen : (holds : List Component → Bool) (tag n : ℕ) (a b : List ℕ) → IsShut tag n → Alike holds a b
    → Unseen (inside holds) (der_header tag n) a b
inside_unseen holds tag n a b shut alike =
    content_unseen (λ whole s. holds (components s)) tag n a b alike.len shut
    (λ whole s is loose small most depth. alike.masks (components s) is (not whole && loose) small most depth)
    (λ made. alike.masks any alike.anything)

-- ---- private elements

-- elements, and one whose content isn't seen, or as much of it as is there
private_alike : (fine : Content → Bool) (before : List Part) (tag n : ℕ) (x y : List ℕ) → AreParts before
    → is_low tag ≡ true → DifferIn n x y → Unseen fine (der_header tag n) (take n x) (take n y)
    → Alike (passed (goes tag fine everything) (tags_of before)) (key_in [] before tag n x) (key_in [] before tag n y)
private_alike fine before tag n x y are low differ content =
    let there : IsContent n (take n x) (drop n x) =
    record { few = differ.few; there = grind (arith, length-take n x, drop_all n x) } in
    rw (take-append-drop n x, differ.after, take-append-drop n y) at
    (hole_alike fine before tag n (take n x) (take n y) (drop n x) are low there content)

abbrev pub is_hidden : Content → Bool
is_hidden = inside (λ cs. false)

-- elements around a primitive one, of which nothing is shown in a whole tree
abbrev pub AreShut : List Level → ℕ → ℕ → Type 0
AreShut [] tag n = IsShut tag n × ((der_header tag n).tag.constructed ≡ false)
AreShut (level ∷ levels) tag n = ((m : ℕ) → IsShut level.tag m) × AreShut levels tag n

pub hidden_unseen : (tag n : ℕ) (a b : List ℕ) → AreShut [] tag n → length a ≡ length b
    → Unseen is_hidden (der_header tag n) a b
hidden_unseen tag n a b (shut, plain) size =
    content_unseen (λ whole s. false) tag n a b size shut (λ whole s is. absurd (cc is))
    (λ made. absurd (cc (sym made ∙ plain)))

-- whether a private element, inside these elements and after such with these tags, is hidden or isn't drawn
abbrev pub blind : List Level → List ℕ → ℕ → List Component → Bool
blind [] tags tag = passed (goes tag is_hidden everything) tags
blind (level ∷ levels) tags tag =
    passed (goes level.tag (inside (blind levels tags tag)) everything) (tags_of level.before)

pub key_alike : (levels : List Level) (before : List Part) (tag n : ℕ) (x y : List ℕ) → AreLevels levels before tag n x
    → AreShut levels tag n → DifferIn n x y
    → Alike (blind levels (tags_of before) tag) (key_in levels before tag n x) (key_in levels before tag n y)
key_alike [] before tag n x y (are, low) shut differ =
    private_alike is_hidden before tag n x y are low differ
    (hidden_unseen tag n (take n x) (take n y) shut (simp (length-take, differ.len)))
key_alike (level ∷ levels) before tag n x y (are, low, few, inner) (shut, more) differ =
    let a : List ℕ = key_in levels before tag n x in
    let b : List ℕ = key_in levels before tag n y in
    let k : ℕ = length a in
    let holds : List Component → Bool = blind levels (tags_of before) tag in
    let alike = key_alike levels before tag n x y inner more differ in
    simp append_assoc (rw (← alike.len) (hole_alike (inside holds) level.before level.tag k a b level.after are low
    (record { few = few; there = inl refl }) (inside_unseen holds level.tag k a b (shut k) alike)))

-- ---- a private element with one in it that doesn't end there

-- no level in them is drawn strictly
cut_undrawn : (n tag k : ℕ) (x y : List ℕ) → IsCutIn n tag k x → length (header tag k ++ x) ≡ length (header tag k ++ y)
    → (small : Bool) (most depth : ℕ) (some : List Component)
    → masked false small most depth false some (take n (header tag k ++ y)) ≡ undrawn (take n (header tag k ++ y))
unfolding step_at
cut_undrawn n tag k x y cut size small zero depth some = refl
cut_undrawn n tag k x y cut size small (suc most) depth some =
    let front : List ℕ = header tag k in
    let left : ℕ = n - length front in
    let all : length front + left ≡ n = omega (arith, cut.begins) in
    let few : length (take left y) < k =
    omega (arith, length-take left y, cut.ends, length-append front x, length-append front y, size) in
    let content : IsContent k (take left y) [] = record { few = cut.few; there = inr (omega (arith, few), refl) } in
    let none = rw append-nil at (next_is false false some tag k (take left y) [] cut.low content) in
    rw (← all, take-append-add front y left, goes_on false some tag (length_octets k ++ take left y), none)
    (grind (arith, nat_tests))

-- whether a content is hidden, or follows a structure to its end or isn't shown
abbrev pub is_shut : Content → Bool
is_shut = inside_content (λ whole s. whole)

pub cut_alike : (before : List Part) (tag n inner k : ℕ) (x y : List ℕ) → AreParts before → is_low tag ≡ true
    → AreShut [] tag n → IsCutIn n inner k x → DifferIn n (header inner k ++ x) (header inner k ++ y)
    → Alike (passed (goes tag is_shut everything) (tags_of before)) (key_in [] before tag n (header inner k ++ x))
    (key_in [] before tag n (header inner k ++ y))
cut_alike before tag n inner k x y are low (shut, plain) cut differ =
    let a : List ℕ = take n (header inner k ++ x) in
    let b : List ℕ = take n (header inner k ++ y) in
    let size : length a ≡ length b = simp (length-take, differ.len) in
    let same : (whole : Bool) (s : Structure) → whole ≡ true → SameAs whole s a b = λ whole s is loose small most depth.
    let one = cut_undrawn n inner k x x cut refl small most depth (components s) in
    let two = cut_undrawn n inner k x y cut differ.len small most depth (components s) in
    rw (is, one, two, size) refl in
    private_alike is_shut before tag n (header inner k ++ x) (header inner k ++ y) are low differ
    (content_unseen (λ whole s. whole) tag n a b size shut same (λ made. absurd (cc (sym made ∙ plain))))

pub octets_shut : (n : ℕ) → IsShut 0x04 n
unfolding shown_len shown_in is_shown is_small is_number has_type
octets_shut n small x = grind arith

pub number_shut : (n : ℕ) → 8 < n → IsShut 0x02 n
unfolding shown_len shown_in is_shown is_small is_number has_type
number_shut n long small x = grind (arith, nat_tests)

pub sequence_shut : (n : ℕ) → IsShut 0x30 n
unfolding shown_len
sequence_shut n small x = refl

-- ---- the root

-- whether the content of a root is one of which this holds
abbrev root_holds : (List Component → Bool) → Component → Bool
root_holds holds root = goes 0x30 (inside holds) everything (root ∷ [])

abbrev forms_hold : (List Component → Bool) → List Form → Bool
forms_hold holds [] = true
forms_hold holds (form ∷ forms) = root_holds holds form.0 && forms_hold holds forms

-- the nearest form is one of them
best_holds : (holds : List Component → Bool) (bytes : List ℕ) (first : Form) (others : List Form)
    → root_holds holds first.0 ≡ true → forms_hold holds others ≡ true
    → root_holds holds (best bytes first others).0 ≡ true
unfolding best better
best_holds holds bytes first [] one more = one
best_holds holds bytes first (second ∷ others) one more =
    let parts = and_parts (root_holds holds second.0) (forms_hold holds others) more in
    best_holds holds bytes (better bytes first second) others (grind (arith, one, parts.0)) parts.1

-- Inputs with contents that are masked alike in each structure which they may follow.
module _ (holds : List Component → Bool) (m : ℕ) (a b rest : List ℕ) (is : IsContent m a rest)
    (alike : Alike holds a b) where
  content : Unseen (inside holds) (der_header 0x30 m) a b
  content = inside_unseen holds 0x30 m a b (sequence_shut m) alike

  abbrev bytes : List ℕ
  bytes = header 0x30 m ++ (a ++ rest)

  abbrev other : List ℕ
  other = header 0x30 m ++ (b ++ rest)

  as_root : (c : Component) → root_holds holds c ≡ true → (loose small : Bool)
      → mask_as loose small c bytes ≡ mask_as loose small c other
  as_root = root_alike 0x30 m refl is content (same_alike rest)

  as_forms : (forms : List Form) → forms_hold holds forms ≡ true → AreAlikeAs forms bytes other
  as_forms [] good = tt
  as_forms (form ∷ forms) good =
      let tests = and_parts (root_holds holds form.0) (forms_hold holds forms) good in
      (as_root form.0 tests.0 false false, as_forms forms tests.1)

  way_alike : (plan : Plan) → root_holds holds (root_of plan.form) ≡ true
      → mask_by_way plan.way plan bytes ≡ mask_by_way plan.way plan other
  way_alike plan good =
      grind (arith, as_root (root_of plan.form) good, undrawn_same 0x30 m refl is content (same_alike rest))

  pub input_alike : forms_hold holds (tables.FIRST ∷ tables.OTHERS) ≡ true → AreAlike bytes other
  unfolding plan_of known_as nearest cases
  input_alike known =
      let parts = and_parts (root_holds holds tables.FIRST.0) (forms_hold holds tables.OTHERS) known in
      let near = best_holds holds bytes tables.FIRST tables.OTHERS parts.0 parts.1 in
      record {
        first = as_root tables.FIRST.0 parts.0 false false;
        others = as_forms tables.OTHERS parts.1;
        elements = as_root elements.ELEMENT refl false false;
        drawn = way_alike (plan_of bytes) (grind (arith, near, parts.0));
      }

-- ---- private keys

-- whether a private element is hidden in each form
abbrev pub is_blind : List Level → List ℕ → ℕ → Bool
is_blind levels tags tag = forms_hold (blind levels tags tag) (tables.FIRST ∷ tables.OTHERS)

pub unseen : (levels : List Level) (before : List Part) (tag m n : ℕ) (x y rest : List ℕ) → AreShut levels tag n
    → is_blind levels (tags_of before) tag ≡ true → AreLevels levels before tag n x
    → AreUnseen m levels before tag n x y rest
unfolding key_bytes
unseen levels before tag m n x y rest shut known are differ is =
    input_alike (blind levels (tags_of before) tag) m (key_in levels before tag n x) (key_in levels before tag n y) rest
    is (key_alike levels before tag n x y are shut differ) known

-- ---- INTEGERs before a private one, from three to eight: those of RSA and DSA keys

tags_same : (numbers : List (List ℕ)) → tags_of (integers numbers) ≡ replicate (length numbers) 0x02
tags_same [] = refl
tags_same (number ∷ numbers) = ap (λ (tags : List ℕ). 0x02 ∷ tags) (tags_same numbers)

pub three_to_eight : (holds : List ℕ → Bool) (numbers : List (List ℕ))
    → agree_below (λ k. holds (replicate (3 + k) 0x02)) (λ k. true) 6 ≡ true → 3 ≤ length numbers
    → length numbers ≤ 8 → holds (tags_of (integers numbers)) ≡ true
three_to_eight holds numbers all some few =
    let k : ℕ = length numbers - 3 in
    let size : length numbers ≡ 3 + k = omega (arith, some) in
    rw (tags_same numbers, size)
    (agree_below_at (λ j. holds (replicate (3 + j) 0x02)) (λ j. true) 6 k all (omega (arith, few)))

-- ---- an ECPrivateKey

-- the bytes after the private key, and those inside the SEQUENCE
abbrev pub after_key : Key → List ℕ
after_key key = joined (forest (field 0 (option_map (λ arcs. leaf 0x06 (content_of arcs)) key.parameters)
    ++ field 1 (option_map (λ bytes. leaf 0x03 (0 ∷ bytes)) key.public_key)))

abbrev pub inside_key : Key → List ℕ
inside_key key = element 0x02 (1 ∷ []) ++ (element 0x04 key.private_key ++ after_key key)

pub keys_alike : (k l : Key) (a b : List ℕ) → IsKeyOf k a → IsKeyOf l b → k.parameters ≡ l.parameters
    → k.public_key ≡ l.public_key → length k.private_key ≡ length l.private_key → length a ≤ max_content_len
    → AreAlike a b
unfolding cases components
keys_alike k l a b p q parameters public_key same few =
    let s : List ℕ = after_key k in
    let inside_a : List ℕ = inside_key k in
    let x : List ℕ = k.private_key in
    let y : List ℕ = l.private_key in
    let n : ℕ = length x in
    let whole = ap length p.tree.whole ∙ length-append (header 0x30 (length inside_a)) inside_a in
    let fits : length inside_a ≤ max_content_len = omega (arith, whole, few) in
    let content : IsContent n x s =
    record { few = omega (arith, simp length-append at fits); there = inl refl } in
    let alike = hole_alike is_hidden ((0x02, 1 ∷ []) ∷ []) 0x04 n x y s (refl, omega arith, tt) refl content
    (hidden_unseen 0x04 n x y (octets_shut n, refl) same) in
    let all = rw (← append_assoc (header 0x04 n) x s, ← append_assoc (header 0x04 n) y s) at alike in
    let masks = input_alike _ (length inside_a) _ _ [] (record { few = fits; there = inl refl }) all refl in
    rw (p.tree.whole, q.tree.whole, ← parameters, ← public_key, ← same, ← all.len)
    (rw (append-nil inside_a, append-nil) at masks)
