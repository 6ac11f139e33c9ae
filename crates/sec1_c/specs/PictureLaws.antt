-- Items that are stored, one after the other.
use Rattle.std.specs.Prelude.{◌≡◌, ℕ, List, [], ◌++◌}
use Rattle.std.specs.List.{flat_map}
use Rattle.std.proofs.Common.{refl, ◌∙◌, append-nil, append_assoc}
use Rattle.std.proofs.lemmas.Grind.{flat_map-append}
use Rattle.der_view.specs.Printing.{Told}
use Rattle.der_view.specs.declared.output.PictureLine.{PictureLine}
use Rattle.sec1_c.specs.Pictures.{Fills, Grows, listed}
use Rattle.sec1_c.specs.declared.picture.filling.Filling.{Filling}

-- none
pub Fills-none : {A : Type 0} (a : List A) (count : ℕ) → Fills a count a count []
Fills-none a count first before held = rw (append-nil before) held

-- some, and more
pub Fills-both : {A : Type 0} {a b c : List A} {m n o : ℕ} (first second : List A)
    → Fills a m b n first → Fills b n c o second → Fills a m c o (first ++ second)
Fills-both first second one two items before held =
    rw (← append_assoc before first second) (two items (before ++ first) (one items before held))

-- those of some lines, and of more
pub Fills-flat : {A B : Type 0} {a b c : List A} {m n o : ℕ} (f : B → List A)
    (first second : List B) → Fills a m b n (flat_map f first) → Fills b n c o (flat_map f second)
    → Fills a m c o (flat_map f (first ++ second))
Fills-flat f first second one two =
    rw (flat_map-append f first second) (Fills-both (flat_map f first) (flat_map f second) one two)

pub Grows-none : (a : Filling PictureLine) → Grows a a (listed [])
Grows-none a = record { place = refl; fills = Fills-none a.slice.now a.count }

pub Grows-both : (a b c : Filling PictureLine) (first second : List Told) → Grows a b (listed first)
    → Grows b c (listed second) → Grows a c (listed (first ++ second))
Grows-both a b c first second one two = record {
  place = two.place ∙ one.place;
  fills = Fills-flat _ first second one.fills two.fills;
}
