-- Which contents are identifiers', and what their arcs are.
use Rattle.std.proofs.Common.{◌≡◌, ℕ, zero, suc, ◌+◌, ◌*◌, ◌/◌, ◌%◌, ◌^◌, ◌<◌, ◌≤◌, Bool, true, false, cond, ◌&&◌, eqb}
use Rattle.std.proofs.Common.{◌-◌, replicate, take, ltb, List, [], ◌∷◌, ◌++◌, Some, length, get_or, ◌↔◌, refl, sym, ap}
use Rattle.std.proofs.Common.{arith, ◌==◌, ◌||◌, map, max, bit_or, ◌∙◌, IsTrue}
use Rattle.std.proofs.lemmas.Bool.{le-leb}
use Rattle.std.proofs.lemmas.Bool.Decides.{nat_tests}
use Rattle.std.proofs.lemmas.List.{append_assoc, append-nil, flat_map_more, map-append, length-append, take_at}
use Rattle.std.specs.Int.{bit_at}
use Rattle.std.specs.Simd.Lanes.{mask_l}
use Rattle.std.proofs.lemmas.Simd.{bit_mask_l}
use Rattle.std.proofs.lemmas.Nat.Bits.{bit_at-suc, bit_at-zero, bit_at_or, bit_at_ones}
use Rattle.std.proofs.lemmas.Nat.{div-mul-add, mod-mul-add}
use Rattle.std.specs.Int.Digits.{digits_of, AllBelowBase}
use Rattle.std.specs.List.{flat_map, AllByRecursion}
use Rattle.sec1_der.specs.Elements.{max_length, within_limit, base128}
use Rattle.sec1_der.specs.Stored.{IsStored}
use Rattle.sec1_der.specs.declared.object_identifier.ObjectIdentifier.TheInside.{Inside}
use Rattle.sec1_der.specs.Identifiers.{are_subidentifiers, numbers_after, arcs_of_numbers, arcs_of, SubidentifiersFit}
use Rattle.sec1_der.specs.Identifiers.{are_arcs, content_of, IsIdentifier, identifier_content, max_identifier_length}
use Rattle.sec1_der.proofs.IdentifierLaws.{AreArcs, arcs_allowed, arcs_tested, identifier_content-valid}
use Rattle.sec1_der.proofs.DigitLaws.{IsBytes, IsBytes-below, continuing, digits_of-push, marked_step}

-- the bytes continue an encoding whose digits so far are those of high, and end one
abbrev pub continues : ℕ → List ℕ → Bool
continues high [] = eqb high 0
continues high (b ∷ bs) =
    cond (eqb high 0 && eqb b 128) false
    (cond (ltb high (2 ^ 25)) (continues (cond (ltb b 128) 0 (high * 128 + b % 128)) bs) false)

-- the width of the digits of a number below 2^25: how many they are, where a first one of 16 or more counts as two
abbrev pub width_of : ℕ → ℕ
width_of high =
    cond (eqb high 0) 0 (cond (ltb high (2 ^ 4)) 1 (cond (ltb high (2 ^ 11)) 2 (cond (ltb high (2 ^ 18)) 3 4)))

-- the same test by the width of the digits so far
abbrev pub is_narrow : ℕ → List ℕ → Bool
is_narrow width [] = eqb width 0
is_narrow width (b ∷ bs) = cond (ltb b 0x80) (is_narrow 0 bs) (cond (eqb width 0)
    (cond (eqb b 0x80) false (is_narrow (cond (ltb b 0x90) 1 2) bs))
    (cond (ltb width 4) (is_narrow (width + 1) bs) false))

-- each number is below 2^32
abbrev pub AreSmall : List ℕ → Type 0
AreSmall ns = AllByRecursion (λ n. n < 2 ^ 32) ns

-- one more small number
pub small_push : (ns : List ℕ) (n : ℕ) → AreSmall ns → n < 2 ^ 32 → AreSmall (ns ++ n ∷ [])
small_push [] n s h = (h, tt)
small_push (m ∷ ns) n s h = (s.0, small_push ns n s.1 h)

-- ---- what is a row of subidentifiers is encoded so

-- bytes that pass the test are subidentifiers of small numbers
continues-parts : (high : ℕ) (bytes : List ℕ) → AllBelowBase 256 bytes → continues high bytes ≡ true
    → (are_subidentifiers (high == 0) bytes ≡ true) × AreSmall (numbers_after high bytes)
continues-parts high [] below goes = grind (arith, nat_tests)
continues-parts high (b ∷ bytes) below goes =
    let n = high * 128 + b % 128 in
    grind (arith, nat_tests, below.0, continues-parts 0 bytes below.1, continues-parts n bytes below.1)

-- after the digits of a number, subidentifiers encode the numbers that are read of them
pub encoded_after : (high : ℕ) (bytes : List ℕ) → AllBelowBase 256 bytes → are_subidentifiers (high == 0) bytes ≡ true
    → continuing (digits_of 128 high) ++ bytes ≡ flat_map base128 (numbers_after high bytes)
encoded_after high [] below passes = grind (arith, nat_tests)
encoded_after high (b ∷ bytes) below passes =
    let n = high * 128 + b % 128 in
    let digits = digits_of-push 128 high (b % 128) in
    let ends = encoded_after 0 bytes below.1 in
    let goes_on = encoded_after n bytes below.1 in
    grind (arith, nat_tests, ends, goes_on, digits, div-mul-add, mod-mul-add, map-append, append_assoc)

-- ---- widths

-- no bytes continue a number of too many digits
too_long : (high : ℕ) (bytes : List ℕ) → 2 ^ 25 ≤ high → continues high bytes ≡ false
too_long high [] l = grind (arith, nat_tests)
too_long high (b ∷ bytes) l = grind (arith, nat_tests)

-- the width of the digits says as much as their number
continues-width : (high : ℕ) (bytes : List ℕ) → AllBelowBase 256 bytes → high < 2 ^ 25
    → continues high bytes ≡ is_narrow (width_of high) bytes
continues-width high [] below l = grind (arith, nat_tests)
continues-width high (b ∷ bytes) below l =
    let n = high * 128 + b % 128 in
    grind (arith, nat_tests, continues-width 0 bytes below.1, continues-width n bytes below.1, too_long n bytes)

-- ---- what is encoded is a row of subidentifiers

-- what the function that writes the digits takes
pub ruleset marked_steps = (marked_step, append_assoc, length-append)

-- all digits but the last are read
read_continuing : (most n : ℕ) (rest : List ℕ) → n ≤ most → let bytes = continuing (digits_of 128 n) ++ rest in
    (numbers_after 0 bytes ≡ numbers_after n rest)
    × (are_subidentifiers true bytes ≡ are_subidentifiers (n == 0) rest)
    × (n < 2 ^ 32 → continues 0 bytes ≡ continues n rest)
read_continuing most zero rest l = (refl, refl, λ small. refl)
read_continuing zero (suc n) rest l = absurd (omega arith)
read_continuing (suc most) (suc n) rest l =
    let before = read_continuing most (suc n / 128) ((128 + suc n % 128) ∷ rest) in
    rw (marked_step (suc n) (omega arith), append_assoc) (grind (arith, nat_tests, before))

-- the numbers that are encoded are read
pub read_all : (ns : List ℕ) → (numbers_after 0 (flat_map base128 ns) ≡ ns)
    × (are_subidentifiers true (flat_map base128 ns) ≡ true)
    × (AreSmall ns → continues 0 (flat_map base128 ns) ≡ true)
read_all [] = (refl, refl, λ small. refl)
read_all (n ∷ ns) =
    let rest = flat_map base128 ns in
    rw append_assoc (grind (arith, nat_tests, read_continuing (n / 128) (n / 128) (n % 128 ∷ rest), read_all ns))

-- ---- contents

-- a content of arcs continues to its end, and the arcs are its own
pub continues_from_arcs : (arcs content : List ℕ) → IsTrue (are_arcs arcs) → content ≡ content_of arcs
    → (continues 0 content ≡ true) × (arcs_of content ≡ arcs)
continues_from_arcs [] content are encoded = absurd (cc are)
continues_from_arcs (a ∷ []) content are encoded = absurd (cc are)
continues_from_arcs (a ∷ b ∷ cs) content are encoded =
    let allowed = arcs_allowed (a ∷ b ∷ cs) are in
    let read = read_all ((40 * a + b) ∷ cs) in
    let goes = read.2 (allowed.2, allowed.3) in
    rw encoded (grind (arith, nat_tests, read.0, goes))

-- numbers that are encoded are those of arcs
encodes_arcs : (content ns : List ℕ) → 0 < length content → content ≡ flat_map base128 ns → AreSmall ns
    → AreArcs (arcs_of_numbers ns) × (content ≡ content_of (arcs_of_numbers ns))
encodes_arcs content [] some encoded small = absurd (omega (arith, ap length encoded))
encodes_arcs content (n ∷ ns) some encoded small = grind (arith, nat_tests)

-- the test by widths decides whether bytes encode arcs
pub is_narrow-decides : (content : List ℕ) → IsBytes content → 0 < length content
    → (is_narrow 0 content ≡ true) ↔ ((arcs : List ℕ) × IsTrue (are_arcs arcs) × (content ≡ content_of arcs))
is_narrow-decides content h some =
    let below = IsBytes-below content h in
    rw (sym (continues-width 0 content below (omega arith))) (
      λ e. let parts = continues-parts 0 content below e in
          let split = encoded_after 0 content below parts.0 in
          let is = encodes_arcs content (numbers_after 0 content) some split parts.1 in
          (arcs_of content, arcs_tested _ is.0, is.1),
      λ s. (continues_from_arcs s.0 content s.1 s.2).0,
    )

-- the arcs that are read of an identifier's content are the identifier's
pub read_arcs : (arcs content : List ℕ) → IsIdentifier arcs content → arcs_of content ≡ arcs
read_arcs arcs content is = (continues_from_arcs arcs content is.allowed is.encoded).1

-- an identifier's content is that of the arcs that are read of it
pub own_arcs : (content : List ℕ) → (arcs : List ℕ) × IsIdentifier arcs content → IsIdentifier (arcs_of content) content
own_arcs content (arcs, is) = rw (read_arcs arcs content is) is

-- what a value that holds a content takes
pub ruleset held_contents = (read_arcs, own_arcs)

-- the subidentifiers of bytes that continue an encoding fit
continues-fit : (high : ℕ) (bytes : List ℕ) → continues high bytes ≡ true → SubidentifiersFit high bytes
continues-fit high [] goes = tt
continues-fit high (b ∷ bs) goes = grind (arith, nat_tests, continues-fit 0 bs, continues-fit (high * 128 + b % 128) bs)

-- the subidentifiers in the content of an identifier fit
pub content_fits : (arcs content : List ℕ) → IsIdentifier arcs content → SubidentifiersFit 0 content
content_fits arcs content is = continues-fit 0 content (continues_from_arcs arcs content is.allowed is.encoded).0

-- there are no more subidentifiers than bytes
numbers_few : (high : ℕ) (bytes : List ℕ) → length (numbers_after high bytes) ≤ length bytes
numbers_few high [] = omega arith
numbers_few high (b ∷ bs) = grind (arith, nat_tests, numbers_few 0 bs, numbers_few (high * 128 + b % 128) bs)

-- the first of them stands for two arcs
first_two_arcs : (numbers : List ℕ) → length (arcs_of_numbers numbers) ≤ 1 + length numbers
first_two_arcs [] = omega arith
first_two_arcs (n ∷ ns) = grind (arith, nat_tests)

-- there are two arcs or more, each small
pub arcs_small : (arcs : List ℕ) → AreArcs arcs → AreSmall arcs × (1 < length arcs)
arcs_small [] h = absurd h
arcs_small (a ∷ []) h = absurd h
arcs_small (a ∷ b ∷ cs) h = grind (arith, h.3)

-- an identifier has 2 to 40 arcs
pub arcs_count : (arcs content : List ℕ) → IsIdentifier arcs content → (2 ≤ length arcs) × (length arcs ≤ 40)
arcs_count arcs content is =
    let read = ap length (read_arcs arcs content is) in
    let few = first_two_arcs (numbers_after 0 content) in
    ((arcs_small arcs (arcs_allowed arcs is.allowed)).1, omega (arith, is.short, numbers_few 0 content, few, read))

-- the arcs that are read of a content
pub ruleset arcs_of_content = (content_fits, read_arcs, arcs_count)

-- where no bytes are left, a subidentifier begins or the content was cut
pub narrow_end : (width : ℕ) (bs : List ℕ) → length bs ≡ 0 → is_narrow width bs ≡ eqb width 0
narrow_end width [] e = refl
narrow_end width (b ∷ bs) e = absurd (omega arith)

-- ---- subidentifiers of one byte or two

-- the bytes that end a subidentifier
abbrev pub ends_at : List ℕ → List Bool
ends_at bs = map (λ b. ltb b 0x80) bs

-- the bytes that would be a zero in front of a subidentifier
abbrev pub zeros_at : List ℕ → List Bool
zeros_at bs = map (λ b. eqb b 0x80) bs

-- of two neighbours one ends a subidentifier, and none is a zero in front
pub narrow_pairs : (bs : List ℕ)
    → ((i : ℕ) → i < length bs → (get_or (ends_at bs) i false || get_or (ends_at bs) (suc i) false) ≡ true)
    → ((i : ℕ) → get_or (zeros_at bs) i false ≡ false) → is_narrow 0 bs ≡ true
narrow_pairs [] ends some = refl
narrow_pairs (b ∷ []) ends some = grind (arith, nat_tests, ends 0 (omega arith))
narrow_pairs (b ∷ c ∷ bs) ends some =
    let next = narrow_pairs (c ∷ bs) (λ i l. ends (suc i) (omega arith)) (λ i. some (suc i)) in
    let rest = narrow_pairs bs (λ i l. ends (suc (suc i)) (omega arith)) (λ i. some (suc (suc i))) in
    grind (arith, nat_tests, ends 0 (omega arith), some 0, next, rest)

-- one of two bits is set
one_of : (x y : Bool) → max (cond x 1 0) (cond y 1 0) ≡ 1 → (x || y) ≡ true
one_of x y e = grind arith

-- a bit isn't set
none_of : (x : Bool) → cond {A = ℕ} x 1 0 ≡ 0 → x ≡ false
none_of x e = grind arith

-- a mask that covers all places together with itself, shifted by one
pub mask_of_pairs : (ms : List Bool) → bit_or (mask_l ms) (mask_l ms / 2) ≡ 255 → (i : ℕ) → i < 8
    → (get_or ms i false || get_or ms (suc i) false) ≡ true
mask_of_pairs ms e i l =
    one_of _ _
    (ap (λ x. max x (cond (get_or ms (suc i) false) 1 0)) (sym (bit_mask_l ms i))
    ∙ ap (max (bit_at (mask_l ms) i)) (sym (bit_mask_l ms (suc i)) ∙ bit_at-suc (mask_l ms) i)
    ∙ (sym (bit_at_or (mask_l ms) (mask_l ms / 2) i) ∙ (ap (λ n. bit_at n i) e ∙ bit_at_ones 8 i l)))

-- an empty mask
pub mask_of_none : (ms : List Bool) → mask_l ms ≡ 0 → (i : ℕ) → get_or ms i false ≡ false
mask_of_none ms e i = none_of _ (sym (bit_mask_l ms i) ∙ (ap (λ n. bit_at n i) e ∙ bit_at-zero i))

-- ---- the stored form

-- the content of an identifier in front, zeros after it, and its length hold the identifier
pub content_is_stored : (arcs content : List ℕ) → IsIdentifier arcs content → let o : Inside =
    record { bytes = content ++ replicate (max_identifier_length - length content) 0; len = length content } in
    IsStored o × (arcs_of (take o.len o.bytes) ≡ arcs)
content_is_stored arcs content is =
    grind (arith, read_arcs arcs content is, take_at)

-- ---- writing

-- an identifier has this content, and an element can hold it
pub identifier_fits : (arcs content : List ℕ) → IsIdentifier arcs content
    → (within_limit (identifier_content arcs) ≡ Some content) × (length content ≤ max_identifier_length)
identifier_fits arcs content is =
    let fits = le-leb (length content) max_length (omega (arith, is.short)) in
    (rw (identifier_content-valid arcs content is, fits) refl, is.short)

-- ---- building

-- the digits of 40 a + b in base 128 are the content of the arcs a and b, and are decoded to them
pub first_two : (a b n : ℕ) (content : List ℕ) → IsTrue (are_arcs (a ∷ b ∷ [])) → n ≡ 40 * a + b → content ≡ base128 n
    → IsTrue (are_arcs (arcs_of content)) × (content ≡ content_of (arcs_of content)) × (arcs_of content ≡ a ∷ b ∷ [])
first_two a b n content are shared is =
    grind (arith, continues_from_arcs (a ∷ b ∷ []) content are, append-nil)

-- the same of a content with one more arc after it
pub one_more_arc : (arcs content : List ℕ) (n : ℕ) (more : List ℕ) → IsTrue (are_arcs arcs)
    → content ≡ content_of arcs → n < 2 ^ 32 → more ≡ content ++ base128 n
    → IsTrue (are_arcs (arcs_of more)) × (more ≡ content_of (arcs_of more)) × (arcs_of more ≡ arcs ++ n ∷ [])
one_more_arc [] content n more are encoded small is = absurd (cc are)
one_more_arc (a ∷ []) content n more are encoded small is = absurd (cc are)
one_more_arc (a ∷ b ∷ cs) content n more are encoded small is =
    let allowed = arcs_allowed (a ∷ b ∷ cs) are in
    let all = arcs_tested (a ∷ b ∷ (cs ++ n ∷ [])) (allowed.0, allowed.1, allowed.2, small_push cs n allowed.3 small) in
    let further = flat_map_more base128 (base128 (40 * a + b)) cs n in
    grind (arith, continues_from_arcs (a ∷ b ∷ (cs ++ n ∷ [])) more all, further)
