-- Points by their encodings.
use Rattle.std.proofs.Common.{◌≡◌, ◌≢◌, ◌<◌, ◌≤◌, ◌^◌, ◌+◌, ◌-◌, ◌/◌, ◌%◌, ◌↔◌, ℕ, List, [], ◌∷◌, ◌++◌, length}
use Rattle.std.proofs.Common.{refl, get_or, take, drop, ◌*◌, ◌==◌, ◌||◌, if◌then◌else◌, arith, append-nil}
use Rattle.std.proofs.Common.{length-append}
use Rattle.std.proofs.Math.Seq.{drop-append-add}
use Rattle.std.proofs.lemmas.List.{take_at, drop_at, take_all, get_or-append_right}
use Rattle.std.specs.Cmp.Lexicographic.{slice_cmp}
use Rattle.std.specs.Ordering.{nat_cmp}
use Rattle.std.specs.declared.cmp.Ordering.{Ordering}
use Rattle.std.specs.declared.cmp.Ordering.TheVariants.{Less, Equal, Greater}
use Rattle.hex.specs.Hex.{IsBytes}
use Rattle.sec1_der.specs.Elements.{number_of}
use Rattle.sec1.specs.PointOrder.{point_cmp, IsBelow}
use Rattle.sec1.specs.Points.{Point, uncompressed, hybrid, IsEncoding, tag_byte, encoding}
use Rattle.sec1.specs.Points.{fixed_width, compressed_point, hybrid_point}
use Rattle.sec1.proofs.ByteOrderLemmas.{slice_cmp-enc}
use Rattle.sec1.proofs.DigitLemmas.{fixed_width-num, length-fixed_width, num-fixed_width, parity_of_last}
use Rattle.sec1.proofs.PointOrderLemmas.{orders, less_below, greater_below}
use Rattle.sec1_c.specs.FieldLengths.{Encodes, EncodesBoth, IsFieldLength}
use Rattle.sec1_c.specs.PointOrders.{IsOrderOf, order_of}
use Rattle.sec1_c.specs.PointPlaces.{ArePointPartsOf, point_places}

-- the tag and the coordinates of a point are at its places
pub are_point_parts : (n : ℕ) (p : Point) (input : List ℕ) → Encodes n p input
    → ArePointPartsOf n p input (point_places n p)
unfolding encoding
are_point_parts n p input e =
    let rest = drop-append-add (tag_byte p ∷ []) (drop 1 (encoding n p)) n in
    grind (arith, take_at, drop_at, take_all, length-append, length-fixed_width)

-- ---- encodings

-- the encoding of a point is an encoding
pub encoded : (n : ℕ) (p : Point) (input : List ℕ) → Encodes n p input → IsEncoding n input
encoded n p input e = record { of = p; fits = e.fits; encoded = e.encoded }

-- what an encoding is, and what is at its places
pub ruleset encodings = (encoded, are_point_parts)

-- ---- the other forms

-- the last byte of two lists is that of the second
last_of_two : (xs ys : List ℕ) → 0 < length ys
    → get_or (xs ++ ys) (length (xs ++ ys) - 1) 0 ≡ get_or ys (length ys - 1) 0
last_of_two xs ys some =
    grind (arith, length-append {A = ℕ}, get_or-append_right xs ys (length xs) (length (xs ++ ys) - 1) 0)

-- the last byte of two coordinates has the parity of y
parity_of_y : (n x y : ℕ) → 1 ≤ n → y < 256 ^ n
    → get_or (fixed_width n x ++ fixed_width n y) (length (fixed_width n x ++ fixed_width n y) - 1) 0 % 2 ≡ y % 2
parity_of_y n x y some fits =
    let few = length-fixed_width n y in
    let last = last_of_two (fixed_width n x) (fixed_width n y) in
    grind (arith, last, parity_of_last (fixed_width n y), num-fixed_width n y fits)

-- the first half of two coordinates is x
first_half : (n x y : ℕ)
    → take (length (fixed_width n x ++ fixed_width n y) / 2) (fixed_width n x ++ fixed_width n y) ≡ fixed_width n x
first_half n x y = grind (arith, length-append {A = ℕ}, length-fixed_width, take_at {A = ℕ})

-- the compressed form of a point that has y is its parity and x
pub compressed_encoded : (n : ℕ) (p : Point) (input : List ℕ) → IsFieldLength n → Encodes n p input
    → 4 ≤ tag_byte p → tag_byte p ≢ 5
    → encoding n (compressed_point p)
    ≡ (2 + get_or (drop 1 input) (length (drop 1 input) - 1) 0 % 2) ∷ take (length (drop 1 input) / 2) (drop 1 input)
unfolding encoding
compressed_encoded n (uncompressed x y) input len e above other =
    rw e.encoded (grind (arith, append-nil {A = ℕ}, first_half n x y, parity_of_y n x y len.0 e.fits.1))
compressed_encoded n (hybrid x y) input len e above other =
    rw e.encoded (grind (arith, append-nil {A = ℕ}, first_half n x y, parity_of_y n x y len.0 e.fits.1))
compressed_encoded n p input len e above other = grind arith

-- any other point is its compressed form
pub compressed_same : (n : ℕ) (p : Point) (input : List ℕ) → Encodes n p input → tag_byte p < 6 → tag_byte p ≢ 4
    → encoding n (compressed_point p) ≡ input
compressed_same n p input e below other = grind (arith, e.encoded)

-- the hybrid form of an uncompressed point has another tag
pub hybrid_encoded : (n : ℕ) (p : Point) (input : List ℕ) → IsFieldLength n → Encodes n p input → tag_byte p ≡ 4
    → encoding n (hybrid_point p) ≡ (6 + get_or (drop 1 input) (length (drop 1 input) - 1) 0 % 2) ∷ drop 1 input
unfolding encoding
hybrid_encoded n (uncompressed x y) input len e is = rw e.encoded (grind (arith, parity_of_y n x y len.0 e.fits.1))
hybrid_encoded n p input len e is = grind arith

-- any other point is its hybrid form
pub hybrid_same : (n : ℕ) (p : Point) (input : List ℕ) → Encodes n p input → tag_byte p ≢ 4
    → encoding n (hybrid_point p) ≡ input
hybrid_same n p input e other = grind (arith, e.encoded)

-- what the other forms of a point are
pub ruleset compressed_forms = (compressed_encoded, compressed_same)

pub ruleset hybrid_forms = (hybrid_encoded, hybrid_same)

-- ---- points made of coordinates

-- the uncompressed point is encoded by the bytes of its coordinates
pub coordinates_encoded : (x y : List ℕ) → IsBytes x → IsBytes y → length y ≡ length x
    → encoding (length x) (uncompressed (number_of x) (number_of y)) ≡ 4 ∷ (x ++ y)
unfolding encoding
coordinates_encoded x y in_x in_y same =
    rw (fixed_width-num (length x) x in_x refl, fixed_width-num (length x) y in_y same) refl

-- its compressed form is encoded by the parity of y and the bytes of x
pub compressed_coordinates : (x y : List ℕ) → IsBytes x → 0 < length y
    → encoding (length x) (compressed_point (uncompressed (number_of x) (number_of y)))
    ≡ (2 + get_or y (length y - 1) 0 % 2) ∷ x
unfolding encoding
compressed_coordinates x y in_x some =
    rw (fixed_width-num (length x) x in_x refl, append-nil x) (grind (arith, parity_of_last y some))

-- how points are encoded by the bytes of coordinates
pub ruleset made_forms = (coordinates_encoded, compressed_coordinates)

-- ---- the order

-- the encodings of points are ordered as the points
pub encodings_ordered : (n : ℕ) (p q : Point) (first second : List ℕ) → Encodes n p first → Encodes n q second
    → slice_cmp nat_cmp first second ≡ point_cmp p q
encodings_ordered n p q first second e f = rw (e.encoded, f.encoded) (slice_cmp-enc n p q e.fits f.fits)

-- an encoding is less than another exactly if the point is
encodings_below : (n : ℕ) (p q : Point) (first second : List ℕ) → Encodes n p first → Encodes n q second
    → (slice_cmp nat_cmp first second ≡ Less) ↔ IsBelow p q
encodings_below n p q first second e f = rw (encodings_ordered n p q first second e f) (less_below p q)

-- it is greater exactly if the point is
encodings_above : (n : ℕ) (p q : Point) (first second : List ℕ) → Encodes n p first → Encodes n q second
    → (slice_cmp nat_cmp first second ≡ Greater) ↔ IsBelow q p
encodings_above n p q first second e f = rw (encodings_ordered n p q first second e f) (greater_below p q)

-- encodings are the same exactly if the points are
encodings_same : (n : ℕ) (p q : Point) (first second : List ℕ) → Encodes n p first → Encodes n q second
    → (slice_cmp nat_cmp first second ≡ Equal) ↔ (p ≡ q)
encodings_same n p q first second e f = rw (encodings_ordered n p q first second e f) (grind (arith, orders))

-- the number of an order that says how two points are ordered
order_numbers : (o : Ordering) (p q : Point) → (o ≡ Less) ↔ IsBelow p q → (o ≡ Greater) ↔ IsBelow q p → (o ≡ Equal)
    ↔ (p ≡ q)
    → IsOrderOf p q (order_of o)
order_numbers Less p q below above same = record { below = grind arith; above = grind arith; same = grind arith }
order_numbers Equal p q below above same = record { below = grind arith; above = grind arith; same = grind arith }
order_numbers Greater p q below above same = record { below = grind arith; above = grind arith; same = grind arith }

-- the number of the order of two encodings is that of the points
pub encodings_numbered : (n : ℕ) (p q : Point) (first second : List ℕ) → EncodesBoth n p q first second
    → IsOrderOf p q (order_of (slice_cmp nat_cmp first second))
encodings_numbered n p q first second both =
    order_numbers (slice_cmp nat_cmp first second) p q
    (encodings_below n p q first second both.first_is both.second_is)
    (encodings_above n p q first second both.first_is both.second_is)
    (encodings_same n p q first second both.first_is both.second_is)

-- ---- the length

-- the length of an encoding is seen from its tag
pub encoding_lengths : (n : ℕ) (p : Point)
    → length (encoding n p)
    ≡ (if tag_byte p == 0 then 1 else if tag_byte p == 4 ||
    (tag_byte p == 6 || tag_byte p == 7) then 2 * n + 1 else n + 1)
unfolding encoding
encoding_lengths n p = grind (arith, length-append {A = ℕ}, length-fixed_width)
