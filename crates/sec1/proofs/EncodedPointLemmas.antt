-- The point of a buffer that begins with its encoding.
use Rattle.std.proofs.Common.{◌≡◌, ℕ, ◌+◌, ◌-◌, ◌*◌, ◌%◌, ◌==◌, ◌<◌, ◌≤◌, cond, List, [], ◌∷◌, ◌++◌, length, get_or}
use Rattle.std.proofs.Common.{take, drop, set, replicate, sym, ap, refl, ◌∙◌, arith}
use Rattle.std.proofs.Common.{append_assoc, append-nil, add-one, Some, Ok, nat_cmp, ◌↔◌, take_at, take_all}
use Rattle.std.proofs.Common.{take-append-drop}
use Rattle.std.proofs.Common.{length-append, length-drop, length-take}
use Rattle.std.proofs.Common.{le_of_eq}
use Rattle.std.specs.Prelude.{◌⊎◌}
use Rattle.std.proofs.Math.Seq.{take-add}
use Rattle.std.proofs.lemmas.List.{take-append-le}
use Rattle.std.specs.Cmp.Lexicographic.{slice_cmp}
use Rattle.std.proofs.lemmas.Slice.{take-put_mid}
use borrow.Rule.Slice.PartMut.{put_mid}
use Rattle.hex.specs.Hex.{IsBytes}
use Rattle.sec1.specs.Der.{number_of}
use Rattle.sec1.specs.Points.{Point, identity, uncompressed, IsPoint, IsEncoding, Fits}
use Rattle.sec1.specs.Points.{tag_byte, encoding, meaning, point_from}
use Rattle.sec1.specs.Points.{compressed_point, hybrid_point, y_of}
use Rattle.sec1.specs.PointOrder.{point_cmp}
use Rattle.sec1.specs.Tags.{byte_of, message_len, point_tag}
use Rattle.sec1.specs.EncodedPoints.{point_of, ReadsBytes}
use Rattle.sec1.specs.declared.point.EncodedPoint.{EncodedPoint}
use Rattle.sec1.proofs.DigitLemmas.{length-fixed_width, num-below, fixed_width-num}
use Rattle.sec1.proofs.PointLemmas.{meaning-enc, meaning-enc-append, meaning-fits, IsBytes-enc, byte_of-tag_of}
use Rattle.sec1.proofs.PointLemmas.{length-enc, length-enc-le, no_prefix}
use Rattle.sec1.proofs.ByteOrderLemmas.{slice_cmp-enc}

-- ---- the beginning of a buffer

-- These bytes mean a point, and are the encoding of what they mean.
pub record Holds (n : ℕ) (front : List ℕ) (p : Point) : Type 0 where
  pub means : meaning n front ≡ p
  pub encoded : encoding n (meaning n front) ≡ front

-- A point's encoding means the point.
pub holds : (n : ℕ) (front : List ℕ) (p : Point) → IsPoint n p → front ≡ encoding n p → Holds n front p
holds n front p fits e = record { means = rw e (meaning-enc n p fits); encoded = grind (arith, meaning-enc n p fits) }

-- A byte 00 is the identity.
pub identity_holds : (n l : ℕ) → 1 ≤ l → Holds n (take {A = ℕ} 1 (replicate {A = ℕ} l 0)) identity
unfolding encoding meaning
identity_holds n l some = record { means = grind arith; encoded = grind arith }

-- ---- the buffer of a value

-- The point of a value is one of its size.
pub point_fits : {N L : ℕ} (p : EncodedPoint N L) → IsPoint N (point_of p)
point_fits {N} p = meaning-fits N (take p.len p.bytes) (rw (← p.encoded) (IsBytes-enc N (point_of p)))

-- It begins with the encoding.
begins : {N L : ℕ} (p : EncodedPoint N L) → p.bytes ≡ encoding N (point_of p) ++ drop p.len p.bytes
begins p = rw (p.encoded) (sym (take-append-drop p.len p.bytes))

-- Its first byte is the tag's.
pub first_byte : {N L : ℕ} (p : EncodedPoint N L) → get_or p.bytes 0 0 ≡ byte_of (point_tag (point_of p))
unfolding encoding
first_byte p = ap (λ (xs : List ℕ). get_or xs 0 0) (begins p) ∙ sym (byte_of-tag_of (point_of p))

-- The tag and the two halves after it make the point.
pub made_of_halves : {N L : ℕ} (p : EncodedPoint N L) (x y : List ℕ) → x ≡ take N (drop 1 p.bytes)
    → y ≡ take N (drop N (drop 1 p.bytes))
    → point_from (byte_of (point_tag (point_of p))) (number_of x) (number_of y) ≡ point_of p
unfolding encoding meaning
made_of_halves {N} p x y ex ey =
    grind (arith, begins p, meaning-enc-append N (point_of p) (drop p.len p.bytes) (point_fits p), byte_of-tag_of)

-- The halves begin with the bytes after the tag.
pub coordinates_of : {N L : ℕ} (p : EncodedPoint N L) (x y : List ℕ) → x ≡ take N (drop 1 p.bytes)
    → y ≡ take N (drop N (drop 1 p.bytes))
    → take (message_len (point_tag (point_of p)) N - 1) (x ++ y) ≡ drop 1 (encoding N (point_of p))
unfolding encoding
coordinates_of {N} p x y ex ey =
    let of = point_of p in
    let rest = drop p.len p.bytes in
    let after : drop 1 p.bytes ≡ drop 1 (encoding N of) ++ rest = ap (drop 1) (begins p) in
    let both : x ++ y ≡ take (N + N) (drop 1 p.bytes) = rw (ex, ey) (sym (take-add N N (drop 1 p.bytes))) in
    let len = length-enc N of in
    let most = length-enc-le N of in
    rw (both, after) (grind (arith, len, most, take-append-le, take_all, take-append-drop))

-- A buffer that the encoding fills is the encoding.
pub filled : {N L : ℕ} (p : EncodedPoint N L) → length p.bytes ≤ p.len → p.bytes ≡ encoding N (point_of p)
filled p full = sym (p.encoded ∙ take_all p.len p.bytes full)

-- ---- comparing two values

-- Equal encodings are those of equal points.
pub same_encodings : {N L : ℕ} (p q : EncodedPoint N L)
    → (encoding N (point_of p) ≡ encoding N (point_of q)) ↔ (point_of p ≡ point_of q)
same_encodings {N} p q = (λ h. ap (meaning N) (sym p.encoded ∙ h ∙ q.encoded), λ h. ap (encoding N) h)

-- The encodings of two values are ordered as their points.
pub point_order : {N L : ℕ} (p q : EncodedPoint N L)
    → slice_cmp nat_cmp (encoding N (point_of p)) (encoding N (point_of q)) ≡ point_cmp (point_of p) (point_of q)
point_order {N} p q = slice_cmp-enc N (point_of p) (point_of q) (point_fits p) (point_fits q)

-- ---- another tag in the first byte

-- The encoding of the compressed form means that form.
pub compressed_holds : {N L : ℕ} (p : EncodedPoint N L) (front : List ℕ)
    → front ≡ encoding N (compressed_point (point_of p))
    → Holds N front (compressed_point (point_of p))
compressed_holds {N} p front e = holds N front (compressed_point (point_of p)) (grind (arith, point_fits p)) e

compress_of : (n : ℕ) (p : Point) (rest : List ℕ) (y tag : ℕ) → Some y ≡ y_of p → tag ≡ cond (y % 2 == 1) 3 2
    → take (n + 1) (set (encoding n p ++ rest) 0 tag) ≡ encoding n (compressed_point p)
unfolding encoding
compress_of n p rest y tag h e =
    grind (arith, add-one, append_assoc {A = ℕ}, append-nil {A = ℕ}, take_at {A = ℕ}, length-fixed_width)

-- With the tag of y's parity in front, the tag and x are the compressed form.
compress_front : {N L : ℕ} (p : EncodedPoint N L) (y tag : ℕ) → Some y ≡ y_of (point_of p)
    → tag ≡ cond (y % 2 == 1) 3 2
    → take (N + 1) (set p.bytes 0 tag) ≡ encoding N (compressed_point (point_of p))
compress_front {N} p y tag h e = grind (arith, begins p, compress_of N (point_of p) (drop p.len p.bytes) y tag h e)

-- An encoding of the greatest length has y after x, and a shorter one has no y.
whole_of : (n : ℕ) (p : Point) (x y : ℕ) → 1 ≤ n → length (encoding n p) ≡ 2 * n + 1
    → point_from (byte_of (point_tag p)) x y ≡ p → Some y ≡ y_of p
whole_of n p x y some e h = grind (arith, length-enc n p)

short_of : (n : ℕ) (p : Point) → length (encoding n p) < 2 * n + 1 → compressed_point p ≡ p
short_of n p short = grind (arith, length-enc n p)

-- Of a point that doesn't fill the buffer, the compressed form is the encoding.
pub short_front : {N L : ℕ} (p : EncodedPoint N L) → (p.len ≡ L → ⊥)
    → take p.len (set p.bytes 0 (get_or p.bytes 0 0)) ≡ encoding N (compressed_point (point_of p))
short_front {N} p short =
    let len : length (encoding N (point_of p)) ≤ p.len = rw p.encoded (omega (arith, length-take {A = ℕ})) in
    let same = short_of N (point_of p) (omega (arith, len, short, p.room, p.sizes.1)) in
    rw same (grind (arith, p.encoded))

-- Of a point that fills it, the compressed form is x after the tag of y's parity.
pub whole_front : {N L : ℕ} (p : EncodedPoint N L) (y : List ℕ) (tag : ℕ) → p.len ≡ L
    → y ≡ take N (drop N (drop 1 p.bytes)) → length y ≡ N → tag ≡ cond (number_of y % 2 == 1) 3 2
    → take (N + 1) (set p.bytes 0 tag) ≡ encoding N (compressed_point (point_of p))
whole_front {N} p y tag whole is long e =
    let x = take N (drop 1 p.bytes) in
    let room : 2 * N + 1 ≤ length p.bytes =
    omega (arith, ap length is, long, length-take {A = ℕ}, length-drop {A = ℕ}, p.sizes.0) in
    let len : length (encoding N (point_of p)) ≡ 2 * N + 1 =
    rw p.encoded (omega (arith, length-take {A = ℕ}, room, whole, p.sizes.1)) in
    let has = whole_of N (point_of p) (number_of x) (number_of y) p.sizes.0 len (made_of_halves p x y refl is) in
    compress_front p (number_of y) tag has e

hybrid_of : (n : ℕ) (p : Point) (rest : List ℕ) (tag : ℕ) → tag ≡ tag_byte (hybrid_point p)
    → take (length (encoding n p)) (set (encoding n p ++ rest) 0 tag) ≡ encoding n (hybrid_point p)
unfolding encoding
hybrid_of n p rest tag e = grind (arith, take_at (drop 1 (encoding n p)) rest)

-- With the hybrid form's tag in front, the encoding is that form's.
pub hybrid_holds : {N L : ℕ} (p : EncodedPoint N L) (tag : ℕ) → p.len ≤ length p.bytes
    → tag ≡ tag_byte (hybrid_point (point_of p))
    → Holds N (take p.len (set p.bytes 0 tag)) (hybrid_point (point_of p))
hybrid_holds {N} p tag room h =
    holds N (take p.len (set p.bytes 0 tag)) (hybrid_point (point_of p)) (grind (arith, point_fits p))
    (grind (arith, begins p, p.encoded, length-take {A = ℕ}, hybrid_of N (point_of p) (drop p.len p.bytes) tag h))

-- ---- a buffer made of coordinates

-- The tag, x and y, written into a buffer one after the other, are the uncompressed point.
pub halves_hold : (n l k : ℕ) (buffer x y : List ℕ) → l ≡ 2 * n + 1 → length buffer ≡ l → length x ≡ n → length y ≡ n
    → IsBytes x → IsBytes y
    → Holds n (take l (put_mid (n + 1) k (put_mid 1 (n + 1 - 1) (set buffer 0 4) x) y))
    (uncompressed (number_of x) (number_of y))
unfolding encoding
halves_hold n l k [] x y el eb ex ey hx hy = absurd (omega arith)
halves_hold n l k (b ∷ buffer) x y el eb ex ey hx hy =
    let with_x = put_mid 1 (n + 1 - 1) (4 ∷ buffer) x in
    let front = take-put_mid 1 (n + 1 - 1) (4 ∷ buffer) x (n + 1) in
    let whole = take-put_mid (n + 1) k with_x y l in
    holds n (take l (put_mid (n + 1) k with_x y)) (uncompressed (number_of x) (number_of y))
    (num-below n x hx (le_of_eq ex), num-below n y hy (le_of_eq ey))
    (grind
    (arith, front, whole, fixed_width-num n x hx, fixed_width-num n y hy, length-append {A = ℕ}, length-drop {A = ℕ}))

-- ---- reading bytes

-- An encoding is no longer than the buffer.
pub encoding_room : (n l : ℕ) (input : List ℕ) → Fits n l → IsEncoding n input → length input ≤ l
encoding_room n l input fits e = omega (arith, length-enc-le n e.of, ap length e.encoded, fits.1)

-- An encoding that doesn't fill the buffer is a tag, or a tag and x.
pub encoding_short : (n l : ℕ) (input : List ℕ) → Fits n l → IsEncoding n input → (length input ≡ l → ⊥)
    → (length input ≡ 1) ⊎ (length input ≡ n + 1)
encoding_short n l input fits e other =
    by e.of (ap length e.encoded ∙ length-enc n e.of)
  where
    by : (p : Point) → length input ≡ message_len (point_tag p) n → (length input ≡ 1) ⊎ (length input ≡ n + 1)
    by p len = grind (arith, fits.1)

-- the lengths of encodings
pub ruleset encoding_lengths = (encoding_room, encoding_short)

-- A value whose encoding is the input was read from it.
pub read_bytes : {N L : ℕ} (input : List ℕ) (point : EncodedPoint N L) → take point.len point.bytes ≡ input
    → IsEncoding N input → ReadsBytes input (Ok point)
read_bytes {N} input point front e = record {
  point = record {
    found = (point.sizes, point_fits point, sym (point.encoded ∙ front));
    only = λ p _ fits encoded. rw front (holds N input p fits encoded).means;
    kind = tt;
  };
  begins_none = λ other _ begins. no_prefix N e.of other (rw e.encoded at begins);
  begun_by_none = λ other _ begun. no_prefix N other e.of (rw e.encoded at begun);
}

-- Encodings that are compared as buffers.
pub ruleset compared_encodings = (filled, same_encodings)
