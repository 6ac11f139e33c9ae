-- The hexadecimal texts of points.
use Rattle.std.proofs.Common.{◌≡◌, ◌+◌, ◌*◌, ◌/◌, ◌<◌, ◌≤◌, ℕ, List, [], ◌∷◌, ◌++◌, length, drop, slice_set}
use Rattle.std.proofs.lemmas.List.{drop-drop}
use Rattle.std.proofs.Common.{refl, sym, arith, length-append, append_assoc}
use Rattle.hex.proofs.HexLemmas.{length-encode_with}
use Rattle.sec1.specs.HexTexts.{IsHexOf}
use Rattle.sec1.specs.Points.{Point, IsEncoding, encoding}
use Rattle.sec1.proofs.HexLemmas.{text_len}
use Rattle.sec1.proofs.PointLemmas.{IsBytes-enc}
use Rattle.sec1_c.specs.FieldLengths.{IsFieldLength}
use Rattle.sec1_c.specs.HexTexts.{IsPointText, digits_of_case, hex_text}
use Rattle.sec1_c.specs.Outputs.{Writes, ended}
use Rattle.sec1_c.proofs.PointLemmas.{encoded, encoding_lengths}

-- a text has two digits for each byte
pub hex_text_len : (lower_case : ℕ) (bytes : List ℕ) → length (hex_text lower_case bytes) ≡ 2 * length bytes
hex_text_len lower_case bytes = length-encode_with (digits_of_case lower_case) bytes

-- a buffer that is too short for a text and a byte 0 is unchanged
pub refused_text : (lower_case : ℕ) (bytes buffer : List ℕ) (number : ℕ) → length buffer ≤ 2 * length bytes
    → number ≡ 7
    → Writes (ended (hex_text lower_case bytes)) buffer buffer number (2 * length bytes + 1)
refused_text lower_case bytes buffer number short is =
    let digits = hex_text_len lower_case bytes in
    let len = length-append (hex_text lower_case bytes) (0 ∷ []) in
    record {
      len = omega (arith, digits, len);
      fits = λ fits. absurd (omega (arith, digits, len, fits));
      short = λ _. (is, refl);
    }

-- the byte 0 takes the place of the first byte that is left
byte_put : (xs : List ℕ) → 0 < length xs → slice_set xs 0 0 ≡ 0 ∷ drop 1 xs
byte_put [] some = absurd (omega (arith, some))
byte_put (x ∷ xs) some = refl

-- the text and the byte 0 are written
pub written_text : (lower_case : ℕ) (bytes buffer text rest : List ℕ) → 2 * length bytes < length buffer
    → text ≡ hex_text lower_case bytes → rest ≡ drop (2 * length bytes) buffer → 0 < length rest
    → Writes (ended (hex_text lower_case bytes)) buffer (text ++ slice_set rest 0 0) 0 (2 * length bytes + 1)
written_text lower_case bytes buffer text rest fits encoded is some =
    let digits = hex_text_len lower_case bytes in
    let len = length-append (hex_text lower_case bytes) (0 ∷ []) in
    let all : length (ended (hex_text lower_case bytes)) ≡ 2 * length bytes + 1 = omega (arith, digits, len) in
    let after : drop (2 * length bytes + 1) buffer ≡ drop 1 rest =
    rw is (sym (drop-drop 1 (2 * length bytes) buffer)) in
    record {
      len = omega (arith, all);
      fits = λ _. (
        refl,
        rw (all, after, encoded, byte_put rest some)
            (sym (append_assoc (hex_text lower_case bytes) (0 ∷ []) (drop 1 rest))),
      );
      short = λ short. absurd (omega (arith, all, short, fits));
    }

-- the text of a point has two digits for each of at most 133 bytes
pub point_text_len : (n : ℕ) (p : Point) (text : List ℕ) → IsFieldLength n → IsHexOf text (encoding n p)
    → (length text / 2 ≡ length (encoding n p)) × (length text / 2 ≤ 133)
point_text_len n p text len is =
    let digits = text_len text (encoding n p) is in
    (omega (arith, digits), grind (arith, digits, encoding_lengths n p))

-- the text of an encoding is that of a point
pub text_of_encoding : (n : ℕ) (text bytes : List ℕ) → IsEncoding n bytes → IsHexOf text bytes → IsPointText n text
text_of_encoding n text bytes e is = (e.of, e.fits, rw e.encoded at is)

-- the texts of points, by their encodings
pub ruleset point_texts = (point_text_len, text_of_encoding, IsBytes-enc, encoded)
