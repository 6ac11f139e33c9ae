-- The contents of a UTCTime and of a GeneralizedTime and the times determine each other.
use Rattle.std.proofs.Common.{◌≡◌, ◌==◌, ℕ, suc, ◌+◌, ◌-◌, ◌*◌, ◌/◌, ◌%◌, ◌<◌, ◌≤◌, nat_lt, Bool, true, false, ◌&&◌}
use Rattle.std.proofs.Common.{◌||◌, List, [], ◌∷◌, ◌++◌, length, take, drop, slice_index, ◌⊎◌, codes, refl, get_or, sym}
use Rattle.std.proofs.Common.{eq-eqb, inl, inr, ap, ◌∙◌, arith}
use Rattle.std.proofs.lemmas.Bool.{eqb-true}
use Rattle.std.proofs.lemmas.Bool.Decides.{nat_tests}
use Rattle.std.proofs.lemmas.List.{length-take, length-append, take_all, take_at, take_more, get_or_at}
use Rattle.std.proofs.lemmas.List.Sums.{AllPass-from_list_all}
use Rattle.std.specs.Char.{is_ascii_digit}
use Rattle.std.specs.List.{AllPass}
use Rattle.der_types.specs.Times.{is_date_time, utc_year, ends_time, utc_date_time, generalized_date_time, is_utc_time}
use Rattle.der_types.specs.Times.{is_generalized_time, utc_content, inner, is_fraction, fraction_text}
use Rattle.der_types.specs.Times.{generalized_content, fraction_of}
use Rattle.der_types.specs.declared.time.DateTime.{DateTime}

-- ---- the parts of the tests

all_four : (w x y z : Bool) → (w && (x && (y && z))) ≡ true → (w ≡ true) × (x ≡ true) × (y ≡ true)
    × (z ≡ true)
all_four w x y z all = grind arith

utc_parts : (bytes : List ℕ) → is_utc_time bytes ≡ true
    → (length bytes ≡ 13) × AllPass is_ascii_digit (take 12 bytes) × (slice_index bytes 12 ≡ 0x5A)
    × (is_date_time (utc_date_time bytes) ≡ true)
utc_parts bytes passes =
    let (long, digits, ends, date) = all_four (length bytes == 13) _ (slice_index bytes 12 == 0x5A) _ passes in
    (eqb-true (length bytes) 13 long, AllPass-from_list_all _ _ digits, eqb-true _ 0x5A ends, date)

generalized_parts : (bytes : List ℕ) → is_generalized_time bytes ≡ true
    → (14 < length bytes) × AllPass is_ascii_digit (take 14 bytes) × (ends_time (drop 14 bytes) ≡ true)
    × (is_date_time (generalized_date_time bytes) ≡ true)
generalized_parts bytes passes =
    let (long, digits, ends, date) = all_four (nat_lt 14 (length bytes)) _ (ends_time (drop 14 bytes)) _ passes in
    (grind (arith, nat_tests), AllPass-from_list_all _ _ digits, ends, date)

-- a UTCTime begins with twelve digits
pub utc_digits : (bytes : List ℕ) → is_utc_time bytes ≡ true → (length (take 12 bytes) ≡ 12)
    × AllPass is_ascii_digit (take 12 bytes)
utc_digits bytes passes =
    let parts = utc_parts bytes passes in
    (omega (arith, length-take {A = ℕ}), parts.1)

-- a GeneralizedTime begins with fourteen digits
pub generalized_digits : (bytes : List ℕ) → is_generalized_time bytes ≡ true
    → (length (take 14 bytes) ≡ 14)
    × AllPass is_ascii_digit (take 14 bytes)
generalized_digits bytes passes =
    let parts = generalized_parts bytes passes in
    (omega (arith, length-take {A = ℕ}), parts.1)

-- ---- two digits and their number

-- two digits are those of their number, which is below 100
pair : (a b : ℕ) → is_ascii_digit a ≡ true → is_ascii_digit b ≡ true
    → let n = 10 * (a - 0x30) + (b - 0x30) in (0x30 + n / 10 ≡ a) × (0x30 + n % 10 ≡ b)
pair a b p q = grind (arith, nat_tests)

two_digits_small : (a b : ℕ) → is_ascii_digit a ≡ true → is_ascii_digit b ≡ true
    → 10 * (a - 0x30) + (b - 0x30) < 100
two_digits_small a b p q = grind (arith, nat_tests)

number_back : (n : ℕ) → 10 * (0x30 + n / 10 - 0x30) + (0x30 + n % 10 - 0x30) ≡ n
number_back n = omega arith

tens_digit : (n : ℕ) → n < 100 → is_ascii_digit (0x30 + n / 10) ≡ true
tens_digit n small = grind (arith, nat_tests)

ones_digit : (n : ℕ) → is_ascii_digit (0x30 + n % 10) ≡ true
ones_digit n = grind (arith, nat_tests)

utc_year-two_digits : (n : ℕ) → n < 100 → utc_year n % 100 ≡ n
utc_year-two_digits n small = grind (arith, nat_tests)

four_digits : (m n : ℕ) → n < 100 → ((100 * m + n) / 100 ≡ m) × ((100 * m + n) % 100 ≡ n)
four_digits m n small = (omega arith, omega arith)

utc_year_within : (n : ℕ) → n < 100 → (1950 ≤ utc_year n) × (utc_year n < 2050)
utc_year_within n small = grind (arith, nat_tests)

utc_year-back : (year : ℕ) → 1950 ≤ year → year < 2050 → utc_year (year % 100) ≡ year
utc_year-back year low high = grind (arith, nat_tests)

fields_small : (time : DateTime) → is_date_time time ≡ true
    → (time.month < 100) × (time.day < 100) × (time.hour < 100) × (time.minute < 100)
    × (time.second < 100)
fields_small time is = grind (arith, nat_tests)

-- ---- UTCTime

-- what a UTCTime encodes has this content
pub utc_content-utc_date_time : (bytes : List ℕ) → is_utc_time bytes ≡ true
    → utc_content (utc_date_time bytes) ≡ bytes
utc_content-utc_date_time (y ∷ z ∷ a ∷ b ∷ c ∷ d ∷ e ∷ f ∷ g ∷ h ∷ i ∷ j ∷ end ∷ []) passes =
    let parts = utc_parts (y ∷ z ∷ a ∷ b ∷ c ∷ d ∷ e ∷ f ∷ g ∷ h ∷ i ∷ j ∷ end ∷ []) passes in
    let is = λ (k : ℕ) (l : k < 12). parts.1 k 0 l in
    let ends : end ≡ 0x5A = parts.2 in
    let small = two_digits_small y z (is 0 (omega arith)) (is 1 (omega arith)) in
    let year = utc_year-two_digits (10 * (y - 0x30) + (z - 0x30)) small in
    let p = pair y z (is 0 (omega arith)) (is 1 (omega arith)) in
    let q = pair a b (is 2 (omega arith)) (is 3 (omega arith)) in
    let r = pair c d (is 4 (omega arith)) (is 5 (omega arith)) in
    let s = pair e f (is 6 (omega arith)) (is 7 (omega arith)) in
    let t = pair g h (is 8 (omega arith)) (is 9 (omega arith)) in
    let u = pair i j (is 10 (omega arith)) (is 11 (omega arith)) in
    cc
utc_content-utc_date_time bytes passes = absurd (omega (arith, (utc_parts bytes passes).0))

-- a UTCTime encodes a time in the years 1950 to 2049
pub utc_date_time-is : (bytes : List ℕ) → is_utc_time bytes ≡ true
    → (is_date_time (utc_date_time bytes) ≡ true) × (1950 ≤ (utc_date_time bytes).year)
    × ((utc_date_time bytes).year < 2050)
utc_date_time-is bytes passes =
    let digits = utc_digits bytes passes in
    let digit = λ (k : ℕ). get_or (take 12 bytes) k 0 in
    let is = λ (k : ℕ) (l : k < 12). digits.1 k 0 (omega arith) in
    let small = two_digits_small (digit 0) (digit 1) (is 0 (omega arith)) (is 1 (omega arith)) in
    let within = utc_year_within _ small in
    ((utc_parts bytes passes).3, within.0, within.1)

-- the content of a time in the years 1950 to 2049 encodes it
pub utc_date_time-utc_content : (time : DateTime) → 1950 ≤ time.year → time.year < 2050
    → utc_date_time (utc_content time) ≡ time
utc_date_time-utc_content time low high = simp (number_back, utc_year-back)

-- the content of a time in the years 1950 to 2049 is a UTCTime
pub is_utc_time-utc_content : (time : DateTime) → is_date_time time ≡ true → 1950 ≤ time.year
    → time.year < 2050
    → is_utc_time (utc_content time) ≡ true
is_utc_time-utc_content time is low high =
    let (month, day, hour, minute, second) = fields_small time is in
    let year : time.year % 100 < 100 = omega arith in
    let encoded = ap is_date_time (utc_date_time-utc_content time low high) ∙ is in
    simp (encoded, tens_digit, ones_digit)

-- ---- GeneralizedTime

-- the parts of an end with a fraction
end_parts : (bytes : List ℕ) → 1 < length bytes → ends_time bytes ≡ true
    → (slice_index bytes 0 ≡ 0x2E) × (slice_index bytes (length bytes - 1) ≡ 0x5A)
    × (0 < length (inner bytes))
unfolding ends_time
end_parts bytes long passes = grind (arith, nat_tests)

fraction_text-some : (fraction : List ℕ) → 0 < length fraction
    → fraction_text fraction ≡ 0x2E ∷ fraction
fraction_text-some [] some = absurd (omega arith)
fraction_text-some (digit ∷ fraction) some = refl

-- what follows the seconds is a fraction, or none, and Z
end_encoded : (bytes : List ℕ) → ends_time bytes ≡ true
    → fraction_text (inner bytes) ++ codes "Z" ≡ bytes
unfolding ends_time
end_encoded [] passes = absurd (cc passes)
end_encoded (x ∷ []) passes = grind (arith, nat_tests)
end_encoded (x ∷ y ∷ rest) passes =
    let parts = end_parts (x ∷ y ∷ rest) (omega arith) passes in
    let place : length (x ∷ y ∷ rest) - 1 ≡ suc (length rest) = omega arith in
    let count : length (x ∷ y ∷ rest) - 1 - 1 ≡ length rest = omega arith in
    let last : get_or (y ∷ rest) (length rest) 0 ≡ 0x5A = rw place at parts.1 in
    let all = take_all (length rest + 1) (y ∷ rest) (omega arith) in
    let whole = rw last at (sym (take_more (y ∷ rest) (length rest) 0 (omega arith)) ∙ all) in
    let first : x ≡ 0x2E = parts.0 in
    rw (fraction_text-some (inner (x ∷ y ∷ rest)) parts.2, count, whole, first) refl

-- what a GeneralizedTime and its fraction encode have this content
pub generalized_content-generalized_date_time : (bytes : List ℕ) → is_generalized_time bytes ≡ true
    → generalized_content (generalized_date_time bytes) (fraction_of bytes) ≡ bytes
generalized_content-generalized_date_time (w ∷ x ∷ y ∷ z ∷ a ∷ b ∷ c ∷ d ∷ e ∷ f ∷ g ∷ h ∷ i ∷ j ∷ end) passes =
    let parts = generalized_parts (w ∷ x ∷ y ∷ z ∷ a ∷ b ∷ c ∷ d ∷ e ∷ f ∷ g ∷ h ∷ i ∷ j ∷ end) passes in
    let is = λ (k : ℕ) (l : k < 14). parts.1 k 0 l in
    let ends = end_encoded end parts.2 in
    let small = two_digits_small y z (is 2 (omega arith)) (is 3 (omega arith)) in
    let year = four_digits (10 * (w - 0x30) + (x - 0x30)) (10 * (y - 0x30) + (z - 0x30)) small in
    let o = pair w x (is 0 (omega arith)) (is 1 (omega arith)) in
    let p = pair y z (is 2 (omega arith)) (is 3 (omega arith)) in
    let q = pair a b (is 4 (omega arith)) (is 5 (omega arith)) in
    let r = pair c d (is 6 (omega arith)) (is 7 (omega arith)) in
    let s = pair e f (is 8 (omega arith)) (is 9 (omega arith)) in
    let t = pair g h (is 10 (omega arith)) (is 11 (omega arith)) in
    let u = pair i j (is 12 (omega arith)) (is 13 (omega arith)) in
    cc
generalized_content-generalized_date_time bytes passes =
    absurd (omega (arith, (generalized_parts bytes passes).0))

-- a GeneralizedTime encodes a time in the years 0 to 9999
pub generalized_date_time-is : (bytes : List ℕ) → is_generalized_time bytes ≡ true
    → (is_date_time (generalized_date_time bytes) ≡ true)
    × ((generalized_date_time bytes).year < 10000)
generalized_date_time-is bytes passes =
    let digits = generalized_digits bytes passes in
    let digit = λ (k : ℕ). get_or (take 14 bytes) k 0 in
    let is = λ (k : ℕ) (l : k < 14). digits.1 k 0 (omega arith) in
    let high = two_digits_small (digit 0) (digit 1) (is 0 (omega arith)) (is 1 (omega arith)) in
    let low = two_digits_small (digit 2) (digit 3) (is 2 (omega arith)) (is 3 (omega arith)) in
    ((generalized_parts bytes passes).3, omega arith)

-- the content of a time in the years 0 to 9999 encodes it
pub generalized_date_time-generalized_content : (time : DateTime) (fraction : List ℕ)
    → generalized_date_time (generalized_content time fraction) ≡ time
generalized_date_time-generalized_content time fraction =
    let year : 100 * (time.year / 100) + time.year % 100 ≡ time.year = omega arith in
    simp (number_back, year)

inner-fraction : (fraction : List ℕ) → inner (0x2E ∷ fraction ++ 0x5A ∷ []) ≡ fraction
inner-fraction fraction =
    let whole = length-append fraction (0x5A ∷ []) in
    take_at fraction (0x5A ∷ []) (length (0x2E ∷ fraction ++ 0x5A ∷ []) - 1 - 1) (omega arith)

-- the content of a time encodes its fraction
pub fraction_of-generalized_content : (time : DateTime) (fraction : List ℕ)
    → fraction_of (generalized_content time fraction) ≡ fraction
fraction_of-generalized_content time [] = refl
fraction_of-generalized_content time (digit ∷ fraction) = inner-fraction (digit ∷ fraction)

some_of : (a b c d e : Bool) → b ≡ true → c ≡ true → d ≡ true → e ≡ true
    → (a || ((b && c) && (d && e))) ≡ true
some_of a b c d e p q r s = grind arith

end_is : (fraction : List ℕ) → (fraction ≡ []) ⊎ (is_fraction fraction ≡ true)
    → ends_time (fraction_text fraction ++ codes "Z") ≡ true
unfolding ends_time
end_is [] is = refl
end_is (digit ∷ fraction) (inl none) = absurd (cc none)
end_is (digit ∷ fraction) (inr is) =
    let bytes = 0x2E ∷ digit ∷ fraction ++ 0x5A ∷ [] in
    let whole = length-append fraction (0x5A ∷ []) in
    let last = get_or_at (0x2E ∷ digit ∷ fraction) 0x5A [] 0 (length bytes - 1) (omega arith) in
    some_of (length bytes == 1 && false) (nat_lt 1 (length bytes)) true
    (slice_index bytes (length bytes - 1) == 0x5A)
    (is_fraction (inner bytes)) (grind (arith, nat_tests)) refl (eq-eqb _ _ last)
    (ap is_fraction (inner-fraction (digit ∷ fraction)) ∙ is)

more_than_fourteen : (n : ℕ) → 0 < n
    → nat_lt 14 (suc (suc
    (suc (suc (suc (suc (suc (suc (suc (suc (suc (suc (suc (suc n)))))))))))))) ≡ true
more_than_fourteen n some = grind (arith, nat_tests)

-- the content of a time in the years 0 to 9999, with a fraction whose last digit isn't 0 or without
-- one, is a GeneralizedTime
pub is_generalized_time-generalized_content : (time : DateTime) (fraction : List ℕ)
    → is_date_time time ≡ true
    → time.year < 10000
    → (fraction ≡ []) ⊎ (is_fraction fraction ≡ true)
    → is_generalized_time (generalized_content time fraction) ≡ true
is_generalized_time-generalized_content time fraction is small ends =
    let (month, day, hour, minute, second) = fields_small time is in
    let high : time.year / 100 < 100 = omega arith in
    let low : time.year % 100 < 100 = omega arith in
    let encoded = ap is_date_time (generalized_date_time-generalized_content time fraction) ∙ is in
    let end = fraction_text fraction ++ codes "Z" in
    let long = more_than_fourteen (length end) (omega (arith, length-append {A = ℕ})) in
    simp (long, encoded, end_is fraction ends, tens_digit, ones_digit)

-- ---- what the laws of the crate cite

pub ruleset utc_laws =
    (utc_content-utc_date_time, utc_date_time-is, utc_date_time-utc_content, is_utc_time-utc_content)

pub ruleset generalized_laws = (
  generalized_content-generalized_date_time,
  generalized_date_time-is,
  generalized_date_time-generalized_content,
  fraction_of-generalized_content,
  is_generalized_time-generalized_content,
)
