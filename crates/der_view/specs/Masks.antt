-- Bytes in which each that isn't shown is 0, and each that isn't drawn FF.
use Rattle.std.specs.Prelude.{◌≡◌, ◌+◌, ℕ, zero, suc, Bool, false, true, List, [], ◌∷◌, ◌++◌}
use Rattle.std.specs.Prelude.{length, take, drop, replicate, Option, Some, None}
use Rattle.std.specs.Option.{option_map_or}
use Rattle.der_view.specs.Contents.{shown_len}
use Rattle.der_view.specs.Grammar.{Component, Form, components}
use Rattle.der_view.specs.Pictures.{plan_of, root_of, root_step}
use Rattle.der_view.specs.Rows.{Step, end_at, front_len, inside_bytes, inside_loose, is_open}
use Rattle.der_view.specs.Rows.{opened_of, rest_after, step_at}
use Rattle.der_view.specs.declared.grammar.TheConstants as elements
use Rattle.der_view.specs.declared.grammar.Structure.{Structure}
use Rattle.der_view.specs.declared.grammar.forms.TheConstants as tables
use Rattle.der_view.specs.declared.plan.Plan.{Plan}
use Rattle.der_view.specs.declared.plan.Way.{Way}
use Rattle.der_view.specs.declared.plan.Way.TheVariants as ways

-- as many bytes that aren't shown
abbrev pub zeros : List ℕ → List ℕ
zeros bytes = replicate (length bytes) 0x00

-- as many bytes that aren't drawn: no header begins with FF FF
abbrev pub undrawn : List ℕ → List ℕ
undrawn bytes = replicate (length bytes) 0xFF

-- a content that is no rows
abbrev pub masked_content : ℕ → List ℕ → List ℕ
masked_content shown bytes = take shown bytes ++ zeros (drop shown bytes)

-- the content of an element that is drawn as a structure or as none, by the masks of levels
abbrev pub content_mask : Bool → Bool → (Bool → Bool → List Component → List ℕ → List ℕ)
    → Option Structure → Step → List ℕ
content_mask loose small inside None step =
    masked_content (shown_len small step.header step.component.2 step.content) step.content
content_mask loose small inside (Some structure) step =
    take (front_len step.component.2) step.content
    ++ inside (inside_loose step.component.2 loose) (is_open step) (components structure)
    (inside_bytes step)

abbrev pub next_mask : List ℕ → (List ℕ → List ℕ) → Option (List ℕ) → List ℕ
next_mask bytes next None = undrawn bytes
next_mask bytes next (Some rest) = next rest

-- a level: its headers, and what is shown of contents; without the bytes after it
abbrev pub masked : Bool → Bool → ℕ → ℕ → Bool → List Component → List ℕ → List ℕ
masked loose small zero depth marked some bytes = undrawn bytes
masked loose small (suc most) depth marked some bytes =
    option_map_or (λ n. take n bytes) (end_at loose marked some bytes)
    (option_map_or (λ step. step.head
    ++ (content_mask loose small (λ l m cs x. masked l small most (depth + 1) m cs x)
    (opened_of loose most (depth + 1) step) step
    ++ next_mask step.rest (λ rest. masked loose small most depth marked step.others rest)
    (rest_after loose most (depth + 1) step)))
    (step_at loose depth some bytes) (undrawn bytes))

-- the content of an element, in which elements are at this depth
abbrev pub step_mask : Bool → Bool → ℕ → ℕ → Step → List ℕ
step_mask loose small most depth step =
    content_mask loose small (λ l m cs x. masked l small most depth m cs x)
    (opened_of loose most depth step) step

abbrev pub mask_with : Bool → Bool → List ℕ → Option Step → List ℕ
mask_with loose small bytes None = undrawn bytes
mask_with loose small bytes (Some step) =
    step.head ++ (step_mask loose small (length bytes) 1 step
    ++ next_mask step.rest (λ rest. undrawn rest) (rest_after loose (length bytes) 1 step))

-- the mask of bytes whose root is this component
unfoldable pub mask_as : Bool → Bool → Component → List ℕ → List ℕ
mask_as loose small root bytes = mask_with loose small bytes (root_step root bytes)

-- the mask of a picture
abbrev pub mask_by_way : Way → Plan → List ℕ → List ℕ
mask_by_way ways.Nothing plan bytes = undrawn bytes
mask_by_way ways.Strict plan bytes = mask_as false false (root_of plan.form) bytes
mask_by_way ways.Loose plan bytes = mask_as true plan.is_tree (root_of plan.form) bytes

abbrev pub AreAlikeAs : List Form → List ℕ → List ℕ → Type 0
AreAlikeAs [] a b = Unit {0}
AreAlikeAs (form ∷ forms) a b =
    (mask_as false false form.0 a ≡ mask_as false false form.0 b) × AreAlikeAs forms a b

-- Bytes differ in those alone that aren't shown of them, whichever form they have.
pub record AreAlike (a b : List ℕ) : Type 0 where
  pub first : mask_as false false tables.FIRST.0 a ≡ mask_as false false tables.FIRST.0 b
  pub others : AreAlikeAs tables.OTHERS a b
  pub elements : mask_as false false elements.ELEMENT a ≡ mask_as false false elements.ELEMENT b
  pub drawn : mask_by_way (plan_of a).way (plan_of a) a ≡ mask_by_way (plan_of a).way (plan_of a) b
