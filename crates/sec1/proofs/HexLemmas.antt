-- Texts of digits whose letters are of one case.
use Rattle.std.proofs.Common.{◌≡◌, ℕ, ◌+◌, ◌*◌, ◌/◌, ◌%◌, ◌<◌, Bool, true, false, eqb, List, [], ◌∷◌, ◌++◌, length}
use Rattle.std.specs.Prelude.{not, ◌&&◌, ◌⊎◌, nat_le, nat_lt, MatchOption, MatchResult, slice_set}
use Rattle.std.proofs.Common.{take, drop, take-append-drop, Option, None, Some, Result, Ok, Err, refl}
use Rattle.std.proofs.Common.{sym, ap, ◌∙◌, arith, inl, inr, slice_index}
use Rattle.std.specs.Char.{is_ascii_uppercase, is_ascii_lowercase}
use Rattle.std.specs.Fmt.{digit_glyph}
use Rattle.std.specs.List.{list_any}
use Rattle.std.specs.Str.{IsAscii, IsUtf8}
use Rattle.std.proofs.lemmas.Str.{IsUtf8-from_ascii}
use Rattle.std.proofs.lemmas.Bool.{cases_Bool}
use Rattle.std.proofs.lemmas.Bool.Decides.{nat_tests}
use Rattle.std.proofs.lemmas.List.{take_all, take_more}
use Rattle.std.proofs.lemmas.List.Folds.{list_any_at, list_any_more}
use Rattle.std.proofs.Math.ListN.{get_or-eq_default}
use Rattle.std.proofs.lemmas.List.FromFn.{get_or-map-range_with_len}
use Rattle.sec1_der.proofs.TextLaws.{plain_of_styled, flush_of_plain, join_two}
use Rattle.hex.specs.Hex.{IsBytes, encode_with, encode_upper, upper_digits, lower_digits, hex_digit_value, decode_of}
use Rattle.hex.specs.Hex.{decode_pairs, decode_sized}
use Rattle.hex.specs.Hex.{digit_or_error, pair_value, ◌>>=◌}
use Rattle.hex.specs.declared.error.FromHexError.{FromHexError}
use Rattle.hex.specs.declared.error.FromHexError.TheVariants.{InvalidHexCharacter, OddLength}
use Rattle.hex.proofs.Pairs.{prepend, decode_start, decode_step, decode_err, decode_done, decode_sized-pairs}
use Rattle.hex.proofs.HexLemmas.{length-encode_with, decode_of-encode_upper, decode_of-encode_lower, decode_of-ok}
use Rattle.hex.proofs.HexLemmas.{decode_of-even, decode_sized-twice}
use Rattle.hex.proofs.HexLemmas.{decode_sized-ok, decode_sized-odd, IsAscii-encode_with}
use Rattle.sec1.specs.HexTexts.{IsHexOf}

-- ---- the digits of a case

-- A text has two digits for each byte.
pub ruleset hex_length = (length-encode_with)

-- The table of upper case holds the digits that formatting writes.
upper_digits-at : (v : ℕ) → v < 16 → slice_index upper_digits v ≡ digit_glyph true v
upper_digits-at v h = get_or-map-range_with_len (digit_glyph true) 0 16 v v 0 h (omega arith)

-- The digit of a value, where there is no letter of the other case.
upper_at : (c v : ℕ) → hex_digit_value c ≡ Some v → is_ascii_lowercase c ≡ false
    → (v < 16) × (slice_index upper_digits v ≡ c)
upper_at c v h n = (grind arith, upper_digits-at v (grind arith) ∙ grind arith)

lower_at : (c v : ℕ) → hex_digit_value c ≡ Some v → is_ascii_uppercase c ≡ false
    → (v < 16) × (slice_index lower_digits v ≡ c)
lower_at c v h n =
    (grind arith, get_or-map-range_with_len (digit_glyph false) 0 16 v v 0 (grind arith) (omega arith) ∙ grind arith)

-- ---- a text of one case has no letter of the other

none_encoded : (f : ℕ → Bool) (table xs : List ℕ) → list_any f table ≡ false → f 0 ≡ false
    → list_any f (encode_with table xs) ≡ false
unfolding encode_with
none_encoded f table [] h z = refl
none_encoded f table (x ∷ xs) h z =
    grind (arith, list_any_at f table, get_or-eq_default table 0, none_encoded f table xs h z)

-- No letter is upper case, or none is lower case.
abbrev pub is_one_case : List ℕ → Bool
is_one_case text = not (list_any is_ascii_uppercase text && list_any is_ascii_lowercase text)

-- The digits that encode bytes are of one case.
pub hex_is_one_case : (text bytes : List ℕ) → IsHexOf text bytes → is_one_case text ≡ true
hex_is_one_case text bytes (inl e) = grind (arith, none_encoded is_ascii_lowercase upper_digits bytes refl refl)
hex_is_one_case text bytes (inr e) = grind (arith, none_encoded is_ascii_uppercase lower_digits bytes refl refl)

-- ---- what decodes in one case is encoded in that case

module _ (table : List ℕ) (other : ℕ → Bool)
    (at : (c v : ℕ) → hex_digit_value c ≡ Some v → other c ≡ false → (v < 16) × (slice_index table v ≡ c)) where
  recode_pair : (i a b : ℕ) (rest bs : List ℕ) (oa ob : Option ℕ) (r : Result (List ℕ) FromHexError)
      → (hex_digit_value a ≡ oa) × (other a ≡ false) → (hex_digit_value b ≡ ob) × (other b ≡ false)
      → ((digit_or_error a i oa >>= λ h. digit_or_error b (i + 1) ob >>= λ l. Ok (h * 16 + l))
      >>= λ v. r >>= λ bytes. Ok (v ∷ bytes)) ≡ Ok bs
      → ((rs : List ℕ) → r ≡ Ok rs → rest ≡ encode_with table rs)
      → a ∷ b ∷ rest ≡ encode_with table bs
  unfolding encode_with
  recode_pair i a b rest bs (Some x) (Some y) (Ok rs) first second h more =
      grind (arith, at a x first.0 first.1, at b y second.0 second.1, more rs refl)
  recode_pair i a b rest bs oa ob r first second h more = absurd cc

  recode : (i : ℕ) (s bs : List ℕ) → decode_pairs i s ≡ Ok bs → list_any other s ≡ false → s ≡ encode_with table bs
  unfolding decode_pairs encode_with
  recode i [] bs h c = grind arith
  recode i (a ∷ []) bs h c = absurd cc
  recode i (a ∷ b ∷ rest) bs h c =
      recode_pair i a b rest bs (hex_digit_value a) (hex_digit_value b) (decode_pairs (i + 2) rest) (refl, grind arith)
      (refl, grind arith) h
      (λ rs e. recode (i + 2) rest rs e (grind arith))

-- What is decoded from a text of one case is encoded by it.
pub decoded : (text bytes : List ℕ) (n : ℕ) → decode_sized text n ≡ Ok bytes → is_one_case text ≡ true
    → IsHexOf text bytes × IsBytes bytes
decoded text bytes n e c =
    let all = sym (decode_sized-twice text n (decode_sized-ok text n bytes e)) ∙ e in
    let ok = decode_of-ok text bytes all in
    let pairs = sym (decode_of-even text ok.0) ∙ all in
    elim (cases_Bool (list_any is_ascii_uppercase text)) [
      | inl upper ↦ (inl (recode upper_digits is_ascii_lowercase upper_at 0 text bytes pairs (grind arith)), ok.3)
      | inr none ↦ (inr (recode lower_digits is_ascii_uppercase lower_at 0 text bytes pairs none), ok.3)
    ]

-- ---- what a text encodes is decoded

-- A text has two digits for each byte.
pub text_len : (text bytes : List ℕ) → IsHexOf text bytes → length text ≡ 2 * length bytes
text_len text bytes h = grind (arith, length-encode_with)

-- What a text encodes is decoded.
pub decodes : (text bytes : List ℕ) (n : ℕ) → n ≡ length text / 2 → IsHexOf text bytes → IsBytes bytes
    → decode_sized text n ≡ Ok bytes
decodes text bytes n k (inl e) f =
    decode_sized-twice text n (omega (arith, text_len text bytes (inl e))) ∙ ap decode_of e
    ∙ decode_of-encode_upper bytes f
decodes text bytes n k (inr e) f =
    decode_sized-twice text n (omega (arith, text_len text bytes (inr e))) ∙ ap decode_of e
    ∙ decode_of-encode_lower bytes f

-- ---- decoding pair by pair

-- the value of a digit in one byte, 255 where there is none
abbrev pub IsDigitValue : Option ℕ → ℕ → Type 0
IsDigitValue digit v = MatchOption digit (v ≡ 255) (λ value. v ≡ value)

-- the first k bytes of a text with digits for n are decoded, or it isn't such a text
pub record AreDecoded (text : List ℕ) (n : ℕ) (are_digits : Bool) (k : ℕ) (front : List ℕ) : Type 0 where
  pub goes : are_digits ≡ true → (length text ≡ 2 * n)
      × (decode_pairs 0 text ≡ prepend front (decode_pairs (2 * k) (drop (2 * k) text)))
  pub stops : are_digits ≡ false → (e : FromHexError) × (decode_sized text n ≡ Err e)

-- nothing is decoded yet
pub decoded_none : (text out : List ℕ) (n : ℕ) (even : Bool) → n ≡ length text / 2 → even ≡ eqb (length text % 2) 0
    → AreDecoded text n even 0 (take 0 out)
decoded_none text out n true half e = record {
  goes = λ _. (grind (arith, nat_tests), decode_start text out);
  stops = λ no. absurd (cc no);
}
decoded_none text out n false half e = record {
  goes = λ yes. absurd (cc yes);
  stops = λ _. (OddLength, decode_sized-odd text n (grind (arith, nat_tests)));
}

-- a pair is decoded, or one of the two values shows that it isn't
abbrev PairIs : ℕ → ℕ → ℕ → ℕ → ℕ → Type 0
PairIs a b i x y =
    ((pair_value a b i ≡ Ok (x % 16 * 16 + y % 16)) × (x < 16) × (y < 16))
    ⊎ ((e : FromHexError) × (pair_value a b i ≡ Err e) × (x < 16 → y < 16 → ⊥))

digit_small : (c v : ℕ) → hex_digit_value c ≡ Some v → v < 16
digit_small c v h = grind arith

pair_is : (a b i x y : ℕ) (oa ob : Option ℕ) → hex_digit_value a ≡ oa → hex_digit_value b ≡ ob
    → IsDigitValue oa x → IsDigitValue ob y → PairIs a b i x y
pair_is a b i x y None ob ea eb hx hy = inr (InvalidHexCharacter a i, rw ea refl, λ small _. omega arith)
pair_is a b i x y (Some v) None ea eb hx hy =
    inr (InvalidHexCharacter b (i + 1), rw (ea, eb) refl, λ _ small. omega arith)
pair_is a b i x y (Some v) (Some w) ea eb hx hy =
    let sv = digit_small a v ea in
    let sw = digit_small b w eb in
    let ex : v * 16 + w ≡ x % 16 * 16 + y % 16 = omega arith in
    inl (rw (ea, eb) (ap Ok ex), omega arith, omega arith)

-- one pair more
pub decoded_more : (text out : List ℕ) (n : ℕ) (was now : Bool) (i x y : ℕ) → 2 * i + 1 < length text → i < length out
    → IsDigitValue (hex_digit_value (slice_index text (2 * i))) x
    → IsDigitValue (hex_digit_value (slice_index text (2 * i + 1))) y
    → now ≡ (was && nat_lt x 16) && nat_lt y 16 → AreDecoded text n was i (take i out)
    → AreDecoded text n now (i + 1) (take (i + 1) (slice_set out i (x % 16 * 16 + y % 16)))
decoded_more text out n was now i x y fits room hx hy e d =
    by was e d (pair_is (slice_index text (2 * i)) (slice_index text (2 * i + 1)) (2 * i) x y _ _ refl refl hx hy)
  where
    by : (was : Bool) → now ≡ (was && nat_lt x 16) && nat_lt y 16 → AreDecoded text n was i (take i out)
        → PairIs (slice_index text (2 * i)) (slice_index text (2 * i + 1)) (2 * i) x y
        → AreDecoded text n now (i + 1) (take (i + 1) (slice_set out i (x % 16 * 16 + y % 16)))
    by false e d p = record { goes = λ yes. absurd (cc); stops = λ _. d.stops refl }
    by true e d (inl p) = record {
      goes = λ _. ((d.goes refl).0, decode_step text out i _ fits room p.0 (d.goes refl).1);
      stops = λ no. grind (arith, nat_tests);
    }
    by true e d (inr p) = record {
      goes = λ yes. grind (arith, nat_tests, p.2);
      stops = λ _. (
        p.0,
        decode_sized-pairs text n (omega (arith, (d.goes refl).0)) (omega (arith, (d.goes refl).0))
            ∙ decode_err text out i p.0 fits p.1 (d.goes refl).1,
      );
    }

-- all pairs are decoded, or the text isn't one of pairs of digits
pub decoded_all : (text out : List ℕ) (n : ℕ) (are_digits : Bool) (i : ℕ) → n ≡ length out → i ≡ length out
    → AreDecoded text n are_digits i (take i out)
    → MatchResult (decode_sized text n) (λ bytes. (are_digits ≡ true) × (out ≡ bytes)) (λ _. ¬ (are_digits ≡ true))
decoded_all text out n true i len end d =
    let twice = (d.goes refl).0 in
    rw (
      decode_sized-pairs text n (omega arith) (omega arith),
      decode_done text out i (omega arith) (omega arith) (d.goes refl).1,
    )
    (refl, refl)
decoded_all text out n false i len end d = rw (d.stops refl).1 (λ e. cc e)

-- ---- texts in parts

-- The digits of bytes are those of their parts.
encode-append : (table xs ys : List ℕ) → encode_with table (xs ++ ys) ≡ encode_with table xs ++ encode_with table ys
unfolding encode_with
encode-append table [] ys = refl
encode-append table (x ∷ xs) ys = rw (encode-append table xs ys) refl

-- The digits of bytes in two parts.
pub encode_split : (bytes : List ℕ) (n : ℕ)
    → encode_upper (take n bytes) ++ encode_upper (drop n bytes) ≡ encode_upper bytes
encode_split bytes n =
    sym (encode-append upper_digits (take n bytes) (drop n bytes)) ∙ ap encode_upper (take-append-drop n bytes)

-- Digits are UTF-8.
ascii_table : (table : List ℕ) → list_any (nat_le 128) table ≡ false → IsAscii table
ascii_table table h i = grind (arith, nat_tests, list_any_at (nat_le 128) table, get_or-eq_default table 0)

pub hex_utf8 : (bytes : List ℕ) → IsUtf8 (encode_upper bytes)
hex_utf8 bytes = IsUtf8-from_ascii _ (IsAscii-encode_with upper_digits bytes (ascii_table upper_digits refl))

-- what printing in parts takes
pub ruleset encode_parts = (encode_split, join_two)

-- The letters of a text that were seen so far.
pub ruleset letters_seen = (list_any_more, take_all)

-- what was printed whatever options are set
pub ruleset printed = (plain_of_styled, flush_of_plain)
