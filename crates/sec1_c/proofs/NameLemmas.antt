-- The names of curves are UTF-8.
use Rattle.std.proofs.Common.{◌≡◌, ℕ, List, [], ◌∷◌, refl, inl, inr, Bool, true, nat_lt, Option, Some, None, arith}
use Rattle.std.proofs.lemmas.Str.{IsUtf8-from_ascii}
use Rattle.std.proofs.lemmas.Str.Ascii.{IsAscii-nil, IsAscii-cons}
use Rattle.std.specs.List.{list_all}
use Rattle.std.specs.Str.{IsAscii, IsUtf8}
use Rattle.curves.specs.Curves.{curve_name, curve_alias, x962_name, IsNameOf}
use Rattle.curves.specs.declared.curve.Curve.{Curve}
use Rattle.curves.specs.declared.curve.Curve.TheVariants as curves

-- whether each byte is ASCII
abbrev all_ascii : List ℕ → Bool
all_ascii text = list_all (λ b. nat_lt b 128) text

-- the same of a text, if there is one
abbrev all_ascii_of : Option (List ℕ) → Bool
all_ascii_of None = true
all_ascii_of (Some text) = all_ascii text

-- a text that passes this test is ASCII
ascii_of : (text : List ℕ) → all_ascii text ≡ true → IsAscii text
ascii_of [] passes = IsAscii-nil
ascii_of (b ∷ bs) passes = IsAscii-cons b bs (grind (arith, passes)) (ascii_of bs (grind (arith, passes)))

-- the names of each curve pass it
ascii_name : (curve : Curve) → all_ascii (curve_name curve) ≡ true
ascii_name curves.Secp112r1 = refl
ascii_name curve = refl

ascii_alias : (curve : Curve) → all_ascii_of (curve_alias curve) ≡ true
ascii_alias curves.Secp112r1 = refl
ascii_alias curve = refl

ascii_x962_name : (curve : Curve) → all_ascii_of (x962_name curve) ≡ true
ascii_x962_name curves.Secp112r1 = refl
ascii_x962_name curve = refl

-- each name of a curve is UTF-8
pub name_utf8 : (text : List ℕ) (curve : Curve) → IsNameOf text curve → IsUtf8 text
name_utf8 text curve (inl is) =
    IsUtf8-from_ascii text (ascii_of text (rw is (ascii_name curve)))
name_utf8 text curve (inr (inl is)) = IsUtf8-from_ascii text (ascii_of text (rw is at (ascii_alias curve)))
name_utf8 text curve (inr (inr is)) = IsUtf8-from_ascii text (ascii_of text (rw is at (ascii_x962_name curve)))
