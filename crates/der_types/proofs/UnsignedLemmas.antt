-- Numbers that aren't negative: their contents and their digits.
use Rattle.std.proofs.Common.{◌≡◌, ◌==◌, ℕ, ◌+◌, ◌*◌, ◌<◌, ◌≤◌, true, if◌then◌else◌, refl, ap, ◌∙◌, arith, List, []}
use Rattle.std.proofs.Common.{◌∷◌, length, take, drop, get_or, slice_index}
use Rattle.std.proofs.lemmas.Bool.Decides.{nat_tests}
use Rattle.std.proofs.lemmas.Int.Digits.{first_digits_of, number_push, number_after_append, number_after_ge}
use Rattle.std.proofs.lemmas.List.{take_more, take-append-drop}
use Rattle.std.specs.Int.Digits.{digits_of}
use Rattle.sec1_der.proofs.DigitLaws.{IsBytes, IsBytes-below}
use Rattle.sec1_der.specs.Elements.{number_of}
use Rattle.der_types.specs.Integers.{is_unsigned, unsigned_content, with_sign}
use Rattle.der_types.proofs.IntegerLaws.{is_unsigned-unsigned_content, number_of-unsigned_content}
use Rattle.der_types.proofs.IntegerLaws.{unsigned_content-number_of, unsigned_content-injective}

-- bytes that pass the test are the content of the number that they encode
pub content-number : (bytes : List ℕ) → IsBytes bytes → is_unsigned bytes ≡ true
    → unsigned_content (number_of bytes) ≡ bytes
content-number bytes are passes = unsigned_content-number_of bytes (IsBytes-below bytes are) passes

pub ruleset numbers =
    (content-number, is_unsigned-unsigned_content, number_of-unsigned_content, unsigned_content-injective)

-- one digit more
pub number_of-take : (i : ℕ) (ds : List ℕ) → i < length ds
    → number_of (take (i + 1) ds) ≡ number_of (take i ds) * 256 + get_or ds i 0
number_of-take i ds below = ap number_of (take_more ds i 0 below) ∙ number_push 256 (take i ds) (get_or ds i 0)

-- further digits make no number smaller
pub number_of-le : (i : ℕ) (ds : List ℕ) → i < length ds → number_of (take i ds) * 256 + get_or ds i 0 ≤ number_of ds
number_of-le i ds below =
    let whole = ap number_of (take-append-drop (i + 1) ds) in
    let split = number_after_append 256 0 (take (i + 1) ds) (drop (i + 1) ds) in
    let grows = number_after_ge 256 (number_of (take (i + 1) ds)) (drop (i + 1) ds) (omega arith) in
    omega (arith, number_of-take i ds below)

pub ruleset digit_steps = (number_of-take, number_of-le)

-- bytes without a zero in front
abbrev pub without_zero : List ℕ → List ℕ
without_zero bytes = if slice_index bytes 0 == 0 then drop 1 bytes else bytes

-- the digits of a number are its content without a zero in front
digits-with_sign : (ds : List ℕ) → (0 < length ds → 0 < slice_index ds 0) → ds ≡ without_zero (with_sign ds)
digits-with_sign [] lead = refl
digits-with_sign (d ∷ ds) lead = grind (arith, nat_tests)

pub digits_of_content : (n : ℕ) → digits_of 256 n ≡ without_zero (unsigned_content n)
digits_of_content n = digits-with_sign (digits_of 256 n) (grind (arith, first_digits_of 256 n))
