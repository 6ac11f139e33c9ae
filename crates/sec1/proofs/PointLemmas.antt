-- Points, tags and encodings.
use Rattle.std.proofs.Common.{◌≡◌, ℕ, zero, suc, ◌+◌, ◌-◌, ◌*◌, ◌%◌, ◌≤◌, true, List, [], ◌∷◌, ◌++◌, length, get_or}
use Rattle.std.proofs.Common.{◌==◌, ◌||◌, slice_index, take, drop, sym, ap, refl, ◌∙◌, arith}
use Rattle.std.proofs.Common.{append_assoc, append-nil, ◌↔◌, take_at, drop_at, take_all, length-drop, get_or-drop}
use Rattle.std.proofs.Common.{length-append, length-take, take-append-drop}
use Rattle.std.proofs.lemmas.List.{nil_from_length}
use Rattle.hex.specs.Hex.{IsBytes}
use Rattle.sec1.specs.Der.{number_of, IsProperPrefix}
use Rattle.sec1_der.proofs.DigitLaws.{IsBytes-take}
use Rattle.sec1.specs.Points.{Point, IsPoint, IsEncoding, fixed_width, tag_byte, encoding, meaning}
use Rattle.sec1.specs.Tags.{byte_of, point_tag, message_len}
use Rattle.sec1.specs.declared.point.tag.Tag.{Tag}
use Rattle.sec1.proofs.DigitLemmas.{IsBytes-append, IsBytes-drop, length-fixed_width, IsBytes-fixed_width, num-below}
use Rattle.sec1.proofs.DigitLemmas.{num-fixed_width, fixed_width-num}
use Rattle.sec1.proofs.DigitLemmas.{parity_of_last}

-- ---- tags

-- Tags with one byte are the same.
pub byte_of-injective : (t u : Tag) → byte_of t ≡ byte_of u → t ≡ u
byte_of-injective t u e = grind arith

-- The byte of a point's tag is the first of its encoding.
pub byte_of-tag_of : (p : Point) → byte_of (point_tag p) ≡ tag_byte p
byte_of-tag_of p = grind arith

-- A point's tag is the one with its byte.
pub tag_of-byte : (tag : Tag) (p : Point) → byte_of tag ≡ tag_byte p → tag ≡ point_tag p
tag_of-byte tag p e = byte_of-injective tag (point_tag p) (e ∙ sym (byte_of-tag_of p))

-- ---- encodings

-- An encoding is as long as its tag says.
pub length-enc : (n : ℕ) (p : Point) → length (encoding n p) ≡ message_len (point_tag p) n
unfolding encoding
length-enc n p = grind (arith, length-append {A = ℕ}, length-fixed_width)

-- What a point's tag says of its encoding.
pub tag_of : (n : ℕ) (p : Point) (tag : Tag) → tag ≡ point_tag p
    → (tag ≡ point_tag p) × (byte_of tag ≡ slice_index (encoding n p) 0) × (message_len tag n ≡ length (encoding n p))
unfolding encoding
tag_of n p tag is =
    rw is (refl, byte_of-tag_of p, sym (length-enc n p))

-- No encoding is longer than that of both coordinates.
pub length-enc-le : (n : ℕ) (p : Point) → length (encoding n p) ≤ 2 * n + 1
length-enc-le n p = rw (length-enc n p) (grind arith)

-- An encoding is bytes.
pub IsBytes-enc : (n : ℕ) (p : Point) → IsBytes (encoding n p)
unfolding encoding
IsBytes-enc n p zero = grind arith
IsBytes-enc n p (suc i) = grind (arith, IsBytes-fixed_width, IsBytes-append)

-- No encoding is a prefix of another.
pub no_prefix : (n : ℕ) (p q : Point) → IsProperPrefix (encoding n p) (encoding n q) → ⊥
unfolding encoding
no_prefix n p q begins =
    let same = tag_of-byte (point_tag q) p in
    let end = nil_from_length begins.more in
    grind (
      arith,
      begins.some,
      begins.split,
      same,
      byte_of-tag_of q,
      end,
      append-nil {A = ℕ},
      length-append {A = ℕ},
      length-enc n p,
      length-enc n q,
    )

-- ---- what encodings mean

-- An encoding means its point, whatever follows it.
pub meaning-enc-append : (n : ℕ) (p : Point) (r : List ℕ) → IsPoint n p → meaning n (encoding n p ++ r) ≡ p
unfolding encoding meaning
meaning-enc-append n p r h =
    grind (arith, take_at {A = ℕ}, drop_at {A = ℕ}, append_assoc {A = ℕ}, length-fixed_width, num-fixed_width)

-- An encoding means its point.
pub meaning-enc : (n : ℕ) (p : Point) → IsPoint n p → meaning n (encoding n p) ≡ p
meaning-enc n p h = rw append-nil at (meaning-enc-append n p [] h)

-- Points with one encoding are the same.
pub one_encoding : (n : ℕ) (p q : Point) → IsPoint n p → IsPoint n q → encoding n p ≡ encoding n q → p ≡ q
one_encoding n p q fits other_fits e = sym (meaning-enc n p fits) ∙ ap (meaning n) e ∙ meaning-enc n q other_fits

-- Bytes mean a point of their size.
pub meaning-fits : (n : ℕ) (bs : List ℕ) → IsBytes bs → IsPoint n (meaning n bs)
unfolding meaning
meaning-fits n [] h = tt
meaning-fits n (tag ∷ rest) h =
    let x = num-below n (take n rest) (IsBytes-take n rest (λ i. h (suc i))) (omega (arith, length-take {A = ℕ})) in
    let y =
    num-below n (take n (drop n rest)) (IsBytes-take n (drop n rest) (IsBytes-drop n rest (λ i. h (suc i))))
    (omega (arith, length-take {A = ℕ})) in
    grind (arith, x, y)

-- ---- the tests of a reader

-- What follows the tag has the right length, and of a hybrid point the right parity.
abbrev pub Skips : ℕ → Tag → List ℕ → Type 0
Skips n tag rest =
    (suc (length rest) ≡ message_len tag n)
    × ((byte_of tag == 6 || byte_of tag == 7) ≡ true → get_or rest (length rest - 1) 0 % 2 ≡ byte_of tag % 2)

-- After the first half is the second.
pub half : (n : ℕ) (rest : List ℕ) → length rest ≡ 2 * n → take n (drop n rest) ≡ drop n rest
half n rest e = take_all n (drop n rest) (omega (arith, length-drop n rest))

encoded_xy : (n : ℕ) (rest : List ℕ) → IsBytes rest → length rest ≡ 2 * n
    → fixed_width n (number_of (take n rest)) ++ fixed_width n (number_of (take n (drop n rest))) ≡ rest
encoded_xy n rest h e =
    let x = fixed_width-num n (take n rest) (IsBytes-take n rest h) in
    let y = fixed_width-num n (drop n rest) (IsBytes-drop n rest h) in
    grind (arith, x, y, half n rest e, take-append-drop n rest, length-take {A = ℕ}, length-drop {A = ℕ})

-- The last byte has the parity of the second half.
parity_rest : (n : ℕ) (rest : List ℕ) → 1 ≤ n → length rest ≡ 2 * n
    → get_or rest (length rest - 1) 0 % 2 ≡ number_of (take n (drop n rest)) % 2
parity_rest n rest some e =
    grind (arith, half n rest e, parity_of_last (drop n rest), get_or-drop {A = ℕ}, length-drop n rest)

-- What passes the test is an encoding.
passes_encoded : (n : ℕ) (tag : Tag) (rest : List ℕ) → 1 ≤ n → IsBytes rest → Skips n tag rest
    → encoding n (meaning n (byte_of tag ∷ rest)) ≡ byte_of tag ∷ rest
unfolding encoding meaning
passes_encoded n tag rest some h p =
    grind (
      arith,
      append-nil {A = ℕ},
      nil_from_length rest,
      take_all n rest,
      fixed_width-num n rest h,
      encoded_xy n rest h,
      parity_rest n rest some,
    )

-- An encoding is that of its meaning.
pub encoding_of_meaning : (n : ℕ) (bs : List ℕ) → IsEncoding n bs → encoding n (meaning n bs) ≡ bs
encoding_of_meaning n bs e = rw e.encoded (ap (encoding n) (meaning-enc n e.of e.fits))

encoding_passes : (n : ℕ) (tag : Tag) (rest : List ℕ) → 1 ≤ n → IsEncoding n (byte_of tag ∷ rest) → Skips n tag rest
unfolding encoding meaning
encoding_passes n tag rest some e =
    grind (
      arith,
      encoding_of_meaning n
          (byte_of tag ∷ rest) e,
      length-enc n e.of,
      tag_of-byte tag e.of,
      parity_rest n rest some,
      e.encoded,
    )

-- The bytes after a tag pass the test exactly if the tag and they are an encoding.
pub passing_encodings : (n : ℕ) (tag : Tag) (rest input : List ℕ) → 1 ≤ n → IsBytes input → input ≡ byte_of tag ∷ rest
    → Skips n tag rest ↔ IsEncoding n input
passing_encodings n tag rest input some h is =
    let bytes : IsBytes (byte_of tag ∷ rest) = rw is at h in (
      λ p. record {
        of = meaning n input;
        fits = meaning-fits n input h;
        encoded = rw is (sym (passes_encoded n tag rest some (λ i. bytes (suc i)) p));
      },
      λ e. encoding_passes n tag rest some (rw is at e),
    )
