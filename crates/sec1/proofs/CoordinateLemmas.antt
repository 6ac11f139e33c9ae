-- The first bytes of a borrowed coordinate: all of it at its length, their parity, and a comparison of two.
use Rattle.std.proofs.Common.{◌≡◌, ◌≢◌, add-one, ℕ, zero, suc, ◌+◌, ◌-◌, ◌%◌, ◌<◌, ◌≤◌, false, ◌&&◌, List, [], ◌∷◌}
use Rattle.std.proofs.Common.{◌*◌, ◌++◌, length, get_or, take, bytes_eq, refl}
use Rattle.std.proofs.Common.{arith, take_all, length-append, drop, sym, ap, ◌∙◌, append-nil, append_assoc}
use Rattle.std.proofs.Common.{Some, nat_lt, if◌then◌else◌}
use Rattle.std.proofs.Math.Seq.{take-append_seam}
use Rattle.std.proofs.lemmas.List.{append_cancel_left, take_more, take-append-le, length_push, take_at, drop_at}
use Rattle.std.proofs.lemmas.List.Elements.{All-nil, All-cons, All-head, All-tail}
use Rattle.std.specs.List.{All}
use Rattle.std.proofs.lemmas.Bool.{lt-ltb}
use Rattle.std.proofs.lemmas.Grind.{elements}
use Rattle.std.proofs.lemmas.Slice.Eq.{bytes_eq-Decides}
use Rattle.std.specs.Fmt.{comma_space, debug_items, decimal}
use Rattle.sec1_der.specs.Errors.{bytes_text}
use Rattle.sec1_der.specs.Elements.{number_of}
use Rattle.sec1.specs.Coordinates.{arrays_of, coordinates_bytes}
use Rattle.sec1.specs.Coordinates.{coordinates_point, first_bytes}
use Rattle.sec1.specs.Points.{encoding, fixed_width, tag_byte, hybrid}
use Rattle.sec1.specs.declared.point.coordinates.Coordinates.{Coordinates}
use Rattle.sec1.specs.declared.point.coordinates.Coordinates.TheVariants as parts
use Rattle.sec1.proofs.DigitLemmas.{length-fixed_width, parity_of_last}

-- The number in a borrowed array.
abbrev pub coordinate_number : ℕ → List ℕ → ℕ
coordinate_number n xs = number_of (first_bytes n xs)

-- Of no bytes, none are first.
pub first_none : (xs : List ℕ) → first_bytes 0 xs ≡ []
unfolding first_bytes
first_none xs = refl

-- One byte more.
pub first_more : (n : ℕ) (xs : List ℕ) → first_bytes (n + 1) xs ≡ first_bytes n xs ++ get_or xs n 0 ∷ []
unfolding first_bytes
first_more n xs = rw (add-one n) refl

first_take : (n : ℕ) (xs : List ℕ) → n ≤ length xs → first_bytes n xs ≡ take n xs
unfolding first_bytes
first_take zero xs h = refl
first_take (suc n) xs h = grind (arith, take_more xs n 0, first_take n xs)

-- A borrowed array has the number of all its bytes, where its length is known.
pub coordinates_whole : (n : ℕ) (xs : List ℕ) → length xs ≡ n → coordinate_number n xs ≡ number_of xs
coordinates_whole n xs e = grind (arith, first_take n xs, take_all n xs)

-- The bytes of one array are the first of those of two.
pub one_array : (n m : ℕ) (xs ys : List ℕ) → length xs ≡ n → m ≡ n → first_bytes n xs ++ [] ≡ take m (xs ++ ys)
one_array n m xs ys long e = grind (arith, append-nil, first_take n xs, take-append-le n xs ys)

-- Those of both are all of them.
pub two_arrays : (n m : ℕ) (xs ys : List ℕ) → length xs ≡ n → length ys ≡ n → m ≡ 2 * n
    → first_bytes n xs ++ (first_bytes n ys ++ []) ≡ take m (xs ++ ys)
two_arrays n m xs ys long other_long e =
    grind (arith, append-nil, first_take n xs, first_take n ys, take_all, length-append {A = ℕ})

-- The arrays with a tag.
pub ruleset with_arrays = (coordinates_whole, one_array, two_arrays)

-- There are always n of them.
pub length-first : (n : ℕ) (xs : List ℕ) → length (first_bytes n xs) ≡ n
unfolding first_bytes
length-first zero xs = refl
length-first (suc n) xs = omega (arith, length-first n xs, length_push {X = ℕ})

get_or-first : (n i : ℕ) (xs : List ℕ) → i < n → get_or (first_bytes n xs) i 0 ≡ get_or xs i 0
unfolding first_bytes
get_or-first zero i xs h = absurd (omega arith)
get_or-first (suc n) i xs h = grind (arith, elements, length-first n xs, get_or-first n i xs)

-- The number of a borrowed array has the parity of its last byte.
pub coordinates_parity : (n : ℕ) (xs : List ℕ) → 0 < n → coordinate_number n xs % 2 ≡ get_or xs (n - 1) 0 % 2
coordinates_parity n xs h =
    grind (arith, length-first n xs, get_or-first n (n - 1) xs, parity_of_last (first_bytes n xs))

-- No bytes encode 0.
pub coordinates_none : (n : ℕ) (xs : List ℕ) → n ≡ 0 → coordinate_number n xs ≡ 0
coordinates_none n xs e = rw (e, first_none xs) refl

-- An array of its length is all of it.
all_bytes : (n : ℕ) (xs : List ℕ) → length xs ≡ n → first_bytes n xs ≡ xs
all_bytes n xs e = grind (arith, first_take n xs, take_all n xs)

-- Two fronts of one length are the same where they and what follows are.
fronts_same : (n : ℕ) (xs us ys vs : List ℕ) → length xs ≡ n → length us ≡ n → xs ++ ys ≡ us ++ vs
    → (xs ≡ us) × (ys ≡ vs)
fronts_same n xs us ys vs long other_long e =
    let front : xs ≡ us =
    sym (take-append_seam xs ys) ∙ rw (e, long, ← other_long) (take-append_seam us vs) in
    (front, append_cancel_left us ys vs (rw front at e))

-- The array is all digits of its number.
abbrev AreDigits : ℕ → List ℕ → Type 0
AreDigits n array = array ≡ fixed_width n (number_of array)

-- The array has n bytes.
abbrev HasLength : ℕ → List ℕ → Type 0
HasLength n array = length array ≡ n

-- An array with the digits of a number.
has_digits : (n : ℕ) (xs : List ℕ) → length xs ≡ n → first_bytes n xs ≡ fixed_width n (coordinate_number n xs)
    → AreDigits n xs
has_digits n xs long e = sym (all_bytes n xs long) ∙ e ∙ ap (fixed_width n) (coordinates_whole n xs long)

one_digits : (n : ℕ) (xs : List ℕ) → All (HasLength n) (xs ∷ [])
    → first_bytes n xs ++ [] ≡ fixed_width n (coordinate_number n xs)
    → All (AreDigits n) (xs ∷ [])
one_digits n xs long e =
    let same = sym (append-nil (first_bytes n xs)) ∙ e in
    All-cons (AreDigits n) xs [] (has_digits n xs (All-head (HasLength n) xs [] long) same) (All-nil (AreDigits n))

-- Two arrays with the digits of two numbers, one after the other.
both_digits : (n : ℕ) (xs ys : List ℕ) → All (HasLength n) (xs ∷ ys ∷ [])
    → first_bytes n xs ++ (first_bytes n ys ++ [])
    ≡ fixed_width n (coordinate_number n xs) ++ fixed_width n (coordinate_number n ys)
    → All (AreDigits n) (xs ∷ ys ∷ [])
both_digits n xs ys long e =
    let same =
    fronts_same n (first_bytes n xs) (fixed_width n (coordinate_number n xs)) _ _ (length-first n xs)
    (length-fixed_width n (coordinate_number n xs)) e in
    All-cons (AreDigits n) xs (ys ∷ []) (has_digits n xs (All-head (HasLength n) xs (ys ∷ []) long) same.0)
    (one_digits n ys (All-tail (HasLength n) xs (ys ∷ []) long) same.1)

-- The arrays of a point's encoding have the digits of its coordinates.
pub digits_of_encoding : {N : ℕ} (c : Coordinates N) → coordinates_bytes c ≡ encoding N (coordinates_point c)
    → All (HasLength N) (arrays_of c) → All (AreDigits N) (arrays_of c)
unfolding encoding
digits_of_encoding {N} parts.Identity e whole = All-nil (AreDigits N)
digits_of_encoding {N} (parts.Compact x) e whole =
    one_digits N x.now whole (ap (drop 1) e ∙ append-nil (fixed_width N (coordinate_number N x.now)))
digits_of_encoding {N} (parts.Compressed x y_is_odd) e whole =
    one_digits N x.now whole (ap (drop 1) e ∙ append-nil (fixed_width N (coordinate_number N x.now)))
digits_of_encoding {N} (parts.Uncompressed x y) e whole = both_digits N x.now y.now whole (ap (drop 1) e)
digits_of_encoding {N} (parts.Hybrid x y) e whole = both_digits N x.now y.now whole (ap (drop 1) e)

-- ---- comparison

-- One byte differs.
pub first_apart : (n i : ℕ) (xs ys : List ℕ) → i < n → get_or xs i 0 ≢ get_or ys i 0
    → false ≡ bytes_eq (first_bytes n xs) (first_bytes n ys)
first_apart n i xs ys h apart = grind (arith, get_or-first n i, bytes_eq-Decides)

-- Fronts of one length are compared first.
pub eq_append : (xs ys us vs : List ℕ) → length xs ≡ length ys
    → bytes_eq (xs ++ us) (ys ++ vs) ≡ (bytes_eq xs ys && bytes_eq us vs)
eq_append [] [] us vs e = refl
eq_append (x ∷ xs) (y ∷ ys) us vs e = grind (arith, eq_append xs ys us vs (omega arith))
eq_append xs ys us vs e = absurd (omega arith)

-- What a comparison byte by byte has seen so far.
pub ruleset compared_bytes = (first_none, first_more, first_apart, bytes_eq-Decides)

-- Hybrid coordinates with the same bytes have the same tag.
pub eq_hybrid : (n : ℕ) (xs ys us vs : List ℕ)
    → (bytes_eq (first_bytes n xs) (first_bytes n us) && bytes_eq (first_bytes n ys) (first_bytes n vs))
    ≡ bytes_eq
    (tag_byte (hybrid (coordinate_number n xs) (coordinate_number n ys))
    ∷ (first_bytes n xs ++ (first_bytes n ys ++ [])))
    (tag_byte (hybrid (coordinate_number n us) (coordinate_number n vs))
    ∷ (first_bytes n us ++ (first_bytes n vs ++ [])))
eq_hybrid n xs ys us vs = grind (arith, append-nil, eq_append, length-first, bytes_eq-Decides)

-- Two coordinates are compared one after the other.
pub ruleset compared_coordinates = (append-nil, eq_append, eq_hybrid, length-first)

-- The number of the digits of a coordinate, and how many they are.
pub ruleset coordinate_digits = (coordinates_whole, length-fixed_width)

-- The same bytes are found to be the same.
pub ruleset same_bytes = bytes_eq-Decides

-- The parity of a coordinate, of any length.
pub ruleset coordinate_parity = (coordinates_parity, coordinates_none)

-- ---- texts

-- The numbers of bytes in decimal, the first after `lead`, each other after a comma.
abbrev pub items : List ℕ → List ℕ → List ℕ
items lead [] = []
items lead (x ∷ xs) = lead ++ (decimal x ++ items comma_space xs)

-- What stands before one more.
abbrev next : List ℕ → List ℕ → List ℕ
next lead [] = lead
next lead (x ∷ xs) = comma_space

next_comma : (xs : List ℕ) → next comma_space xs ≡ comma_space
next_comma [] = refl
next_comma (x ∷ xs) = refl

items_text : (lead xs : List ℕ) → debug_items (λ x. Some (decimal x)) lead xs ≡ Some (items lead xs)
items_text lead [] = refl
items_text lead (x ∷ xs) = rw (items_text comma_space xs) refl

items_push : (lead xs : List ℕ) (x : ℕ) → items lead (xs ++ x ∷ []) ≡ items lead xs ++ (next lead xs ++ decimal x)
items_push lead [] x = ap (λ ds. lead ++ ds) (append-nil (decimal x))
items_push lead (y ∷ ys) x = rw (items_push comma_space ys x, next_comma ys)
    (simp append_assoc)

next_first : (n : ℕ) (xs : List ℕ) → next [] (first_bytes n xs) ≡ (if nat_lt 0 n then comma_space else [])
next_first zero xs = rw (first_none xs) refl
next_first (suc n) xs =
    rw (lt-ltb 0 (suc n) (omega arith)) (by (first_bytes (suc n) xs) (length-first (suc n) xs))
  where
    by : (ys : List ℕ) → length ys ≡ suc n → next [] ys ≡ comma_space
    by [] e = absurd (omega arith)
    by (y ∷ ys) e = refl

-- One byte more is printed.
pub one_item : (n : ℕ) (xs : List ℕ) → items [] (first_bytes n xs)
    ++ ((if nat_lt 0 n then comma_space else []) ++ decimal (get_or xs n 0)) ≡ items [] (first_bytes (n + 1) xs)
one_item n xs =
    rw (first_more n xs, ← next_first n xs) (sym (items_push [] (first_bytes n xs) (get_or xs n 0)))

-- All bytes are printed, in brackets.
pub all_items : (xs : List ℕ) → bytes_text xs ≡ Some (91 ∷ (items [] xs ++ 93 ∷ []))
all_items xs = rw (items_text [] xs) refl

-- The bytes of two arrays, one after the other, are printed apart.
pub first_array : (n : ℕ) (xs ys : List ℕ) → take n (first_bytes n xs ++ ys) ≡ first_bytes n xs
first_array n xs ys = take_at (first_bytes n xs) ys n (length-first n xs)

pub second_array : (n : ℕ) (xs ys : List ℕ) → drop n (first_bytes n xs ++ (ys ++ [])) ≡ ys
second_array n xs ys = drop_at (first_bytes n xs) (ys ++ []) n (length-first n xs) ∙ append-nil ys
