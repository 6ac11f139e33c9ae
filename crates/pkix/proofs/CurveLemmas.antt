-- The identifier of a curve, as an element.
use Rattle.std.proofs.Common.{◌≡◌, ℕ, List, [], length, Some, refl}
use Rattle.curves.proofs.CurveLemmas.{content-curve_arcs}
use Rattle.curves.specs.Curves.{curve_arcs, curve_content}
use Rattle.curves.specs.declared.curve.Curve.{Curve}
use Rattle.sec1_der.proofs.ElementLaws.{element_of-some, element_of-within, element_apart}
use Rattle.sec1_der.specs.Elements.{element, element_of, IsHeader}
use Rattle.sec1_der.specs.Identifiers.{identifier_content}

-- an element with the content of a curve's identifier names the curve
pub named_by : (curve : Curve) (content bytes : List ℕ) → curve_content curve ≡ content
    → IsHeader 0x06 (length content) → bytes ≡ element 0x06 content
    → element_of 0x06 (identifier_content (curve_arcs curve)) ≡ Some bytes
named_by curve content bytes same header encoded =
    let e = element_of-within 0x06 (identifier_content (curve_arcs curve)) content
    (content-curve_arcs curve content same) header.bounded in
    rw encoded e

-- an element that names a curve has the tag of an identifier, and the content of the curve's
pub content_named : (curve : Curve) (tag : ℕ) (content bytes : List ℕ) → bytes ≡ element tag content
    → element_of 0x06 (identifier_content (curve_arcs curve)) ≡ Some bytes
    → (tag ≡ 0x06) × (curve_content curve ≡ content)
content_named curve tag content bytes encoded names =
    let found = element_of-some 0x06 (identifier_content (curve_arcs curve)) bytes names in
    let own = content-curve_arcs curve (curve_content curve) refl in
    let inside : found.inside ≡ curve_content curve = cc (found.same, own) in
    let all = element_apart tag 0x06 content found.inside [] [] (cc (encoded, found.at.encoded)) in
    (all.0, cc (all.1, inside))

pub ruleset curve_elements = (named_by, content_named)
