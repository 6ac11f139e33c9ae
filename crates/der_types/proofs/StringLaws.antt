-- Which character strings' contents are contents of other character strings too.
use Rattle.std.specs.Prelude.{◌≡◌, ℕ, Bool, true, List, [], ◌∷◌, refl}
use Rattle.std.proofs.Common.{arith}
use Rattle.std.proofs.lemmas.Bool.Decides.{nat_tests}
use Rattle.std.proofs.lemmas.Str.{IsUtf8-from_ascii, is_utf8-from_IsUtf8}
use Rattle.std.proofs.lemmas.Str.Ascii.{IsAscii-nil, IsAscii-cons}
use Rattle.std.specs.Char.{is_ascii}
use Rattle.std.specs.List.{list_all}
use Rattle.std.specs.Str.{IsAscii, is_utf8}
use Rattle.der_types.specs.Strings.{is_ia5, is_numeric_character, is_numeric_string, is_printable}
use Rattle.der_types.specs.Strings.{is_printable_character, is_visible, is_visible_character}

list_all-implied : (p q : ℕ → Bool) → ((c : ℕ) → p c ≡ true → q c ≡ true) → (bytes : List ℕ)
    → list_all p bytes ≡ true
    → list_all q bytes ≡ true
list_all-implied p q implies [] all = refl
list_all-implied p q implies (c ∷ bytes) all =
    grind (arith, implies c, list_all-implied p q implies bytes)

-- a NumericString's content is a PrintableString's
pub is_printable-numeric : (bytes : List ℕ) → is_numeric_string bytes ≡ true
    → is_printable bytes ≡ true
is_printable-numeric bytes passes =
    list_all-implied is_numeric_character is_printable_character (λ c is. grind (arith, nat_tests))
    bytes passes

-- a PrintableString's content is a VisibleString's
pub is_visible-printable : (bytes : List ℕ) → is_printable bytes ≡ true → is_visible bytes ≡ true
is_visible-printable bytes passes =
    list_all-implied is_printable_character is_visible_character (λ c is. grind (arith, nat_tests))
    bytes passes

-- a VisibleString's content is an IA5String's
pub is_ia5-visible : (bytes : List ℕ) → is_visible bytes ≡ true → is_ia5 bytes ≡ true
is_ia5-visible bytes passes =
    list_all-implied is_visible_character is_ascii (λ c is. grind (arith, nat_tests)) bytes passes

is_ascii-ia5 : (bytes : List ℕ) → is_ia5 bytes ≡ true → IsAscii bytes
is_ascii-ia5 [] passes = IsAscii-nil
is_ascii-ia5 (c ∷ bytes) passes =
    IsAscii-cons c bytes (grind (arith, nat_tests)) (is_ascii-ia5 bytes (grind arith))

-- an IA5String's content is a UTF8String's
pub is_utf8-ia5 : (bytes : List ℕ) → is_ia5 bytes ≡ true → is_utf8 bytes ≡ true
is_utf8-ia5 bytes passes =
    is_utf8-from_IsUtf8 bytes (IsUtf8-from_ascii bytes (is_ascii-ia5 bytes passes))

-- what the laws of the crate cite
pub ruleset string_laws = (is_printable-numeric, is_visible-printable, is_ia5-visible, is_utf8-ia5)
