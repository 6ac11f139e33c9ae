-- What `{:?}` prints.
use Rattle.std.specs.Prelude.{ℕ, List, [], ◌∷◌, if◌then◌else◌, Option, Some, codes, take}
use Rattle.std.specs.Prelude.{drop}
use Rattle.sec1_der.specs.Errors.{bytes_text, struct_text}
use Rattle.sec1.specs.Points.{Point, identity, compact, compressed, uncompressed, hybrid}

-- of the coordinates of a point of this form, which are these bytes: n of x, and then n of y
abbrev pub form_text : ℕ → Point → List ℕ → Option (List ℕ)
form_text n identity bytes = Some (codes "Identity")
form_text n (compact x) bytes = struct_text (codes "Compact") ((codes "x", bytes_text bytes) ∷ [])
form_text n (compressed x y_is_odd) bytes =
    struct_text (codes "Compressed") ((codes "x", bytes_text bytes)
    ∷ (codes "y_is_odd", Some (if y_is_odd then codes "true" else codes "false")) ∷ [])
form_text n (uncompressed x y) bytes =
    struct_text (codes "Uncompressed") ((codes "x", bytes_text (take n bytes))
    ∷ (codes "y", bytes_text (drop n bytes)) ∷ [])
form_text n (hybrid x y) bytes =
    struct_text (codes "Hybrid") ((codes "x", bytes_text (take n bytes))
    ∷ (codes "y", bytes_text (drop n bytes)) ∷ [])
