-- EC private keys in either form: as which one bytes are read, and the places of the parts in a container.
use Rattle.std.proofs.Common.{IfSome, IsSomeAnd}
use Rattle.std.proofs.Common.{◌≡◌, ◌≢◌, ◌==◌, inl, inr, ◌+◌, ◌-◌, ◌≤◌, ◌++◌, ◌∷◌, [], ℕ, List, length, take, drop}
use Rattle.std.proofs.Common.{Bool, true, false, if◌then◌else◌, Option, Some, None, Result, Ok, Err, refl, sym, ap, ◌∙◌}
use Rattle.std.proofs.Common.{lit≤, arith}
use Rattle.std.specs.Option.{option_map}
use Rattle.std.proofs.lemmas.List.{append-nil, drop-drop, drop-take, length-take, take-take}
use Rattle.curves.specs.Curves.{curve_arcs}
use Rattle.curves.specs.declared.curve.Curve.{Curve}
use Rattle.std.specs.Prelude.{is_none}
use Rattle.pkix.specs.Records.{algorithm_content}
use Rattle.pkix.specs.declared.private_key.OneAsymmetricKey.{OneAsymmetricKey}
use Rattle.sec1.proofs.KeyLemmas.{key_written}
use Rattle.sec1.specs.Keys.{Key, IsKeyOf}
use Rattle.sec1_der.proofs.ElementLaws.{element_of-some}
use Rattle.sec1_der.proofs.FaultLaws.{alone, element_at, read_element}
use Rattle.sec1_der.proofs.JoinLaws.{parted}
use Rattle.sec1_der.specs.Elements.{element, element_of, length_octets}
use Rattle.sec1_der.specs.Faults.{Fault, IsFaultOf, element_fault, no_fault, parts_fault, content_at}
use Rattle.sec1_der.specs.Identifiers.{IsIdentifier, content_of}
use Rattle.sec1_der.specs.Parts.{join}
use Rattle.sec1_der.specs.Readers.{HasReadElement, Reader}
use Rattle.sec1_der.specs.declared.error.ErrorKind.{ErrorKind}
use Rattle.sec1_der.specs.declared.error.ErrorKind.TheVariants.{Tag}
use Rattle.pkix.specs.EcKeys.{IsOnCurve, NamesCurve}
use Rattle.sec1_c.specs.Containers.{IsContainer, after_key, container_content, container_places}
use Rattle.sec1_c.specs.KeyPlaces.{ArePartsOf, key_places}
use Rattle.sec1_c.specs.Places.{IsPart, StandsAt, bytes_at, span_shifted}
use Rattle.sec1_c.specs.PrivateKeys.{AreContainedPartsOf, IsKeyIn, contained_places, has_algorithm, tag_fault}
use Rattle.sec1_c.specs.declared.key.KeyParts.{KeyParts}
use Rattle.sec1_c.specs.declared.span.Span.{Span}
use Rattle.sec1_c.proofs.ContainerLemmas.{are_container_parts}
use Rattle.sec1_c.proofs.PlaceLemmas.{are_parts, parts_within}

-- ---- which form bytes are read as

-- what is tested of the content of the SEQUENCE
abbrev pub form_fault : Fault
form_fault = element_fault 0x02 no_fault (tag_fault 0x30)

-- what a reader finds
pub found_form : (bytes : List ℕ) (first content after rest : Reader) (number : List ℕ) → first.unread ≡ bytes
    → HasReadElement 0x30 content.unread first after → HasReadElement 0x02 number content rest
    → has_algorithm bytes ≡ is_none (tag_fault 0x30 rest.unread)
found_form bytes first content after rest number is outer inner =
    let whole = read_element form_fault no_fault 0x30 content.unread first after outer in
    let parts = read_element no_fault (tag_fault 0x30) 0x02 number content rest inner in
    ap is_none
    (ap (element_fault 0x30 form_fault no_fault) (sym is) ∙ (whole ∙ (alone (form_fault content.unread) ∙ parts)))

-- what is refused as an INTEGER isn't one
not_form : (bytes : List ℕ) (kind : ErrorKind) → IsFaultOf (element_fault 0x02 no_fault no_fault bytes) kind
    → is_none (form_fault bytes) ≡ false
not_form [] kind is = refl
not_form (byte ∷ bytes) kind is = by (byte == 0x02) (content_at bytes) is
  where
    by : (b : Bool) (found : Result (List ℕ × List ℕ) ErrorKind)
        → IsFaultOf (if b then parts_fault no_fault no_fault found else Some (Some Tag)) kind
        → is_none (if b then parts_fault no_fault (tag_fault 0x30) found else Some (Some Tag)) ≡ false
    by false found is = refl
    by true (Err k) is = refl
    by true (Ok x) is = absurd is

pub refused_form : (bytes : List ℕ) (first content rest : Reader) (kind : ErrorKind) → first.unread ≡ bytes
    → HasReadElement 0x30 content.unread first rest
    → IsFaultOf (element_fault 0x02 no_fault no_fault content.unread) kind
    → has_algorithm bytes ≡ false
refused_form bytes first content rest kind is outer refused =
    let whole = read_element form_fault no_fault 0x30 content.unread first rest outer in
    ap is_none (ap (element_fault 0x30 form_fault no_fault) (sym is) ∙ (whole ∙ alone (form_fault content.unread)))
    ∙ not_form content.unread kind refused

-- a SEQUENCE that begins with an INTEGER of one byte, and what follows that begins with this tag
record BeginsWith (tag : ℕ) (bytes : List ℕ) : Type 0 where
  rest : List ℕ
  split : bytes ≡ tag ∷ rest

form_of : (version tag : ℕ) (rest : Option (List ℕ)) (bytes : List ℕ)
    → element_of 0x30 (join (element_of 0x02 (Some (version ∷ []))) rest) ≡ Some bytes
    → ((back : List ℕ) → rest ≡ Some back → BeginsWith tag back)
    → has_algorithm bytes ≡ is_none (tag_fault 0x30 (tag ∷ []))
form_of version tag rest bytes is begins =
    let whole = element_of-some 0x30 (join (element_of 0x02 (Some (version ∷ []))) rest) bytes is in
    let parts = parted (element_of 0x02 (Some (version ∷ []))) rest whole.inside whole.same in
    let number : parts.front ≡ element 0x02 (version ∷ []) = cc parts.first_there in
    let next = begins parts.back parts.second_there in
    let split : whole.inside ≡ element 0x02 (version ∷ []) ++ parts.back = grind (arith, parts.joined, number) in
    let inner = element_at no_fault (tag_fault 0x30) 0x02 (version ∷ []) whole.inside parts.back (lit≤ tt) split in
    let outer = element_at form_fault no_fault 0x30 whole.inside bytes [] whole.at.bounded
    (grind (arith, append-nil, whole.at.encoded)) in
    let last : tag_fault 0x30 parts.back ≡ tag_fault 0x30 (tag ∷ []) = rw next.split refl in
    ap is_none (outer ∙ (alone (form_fault whole.inside) ∙ (inner ∙ last)))

-- a row of fields begins with the tag of its first one
fields_begin : (tag : ℕ) (content rest : Option (List ℕ)) (back : List ℕ)
    → join (element_of tag content) rest ≡ Some back
    → BeginsWith tag back
fields_begin tag content rest back e =
    let parts = parted (element_of tag content) rest back e in
    let first = element_of-some tag content parts.front parts.first_there in
    record {
      rest = (length_octets (length first.inside) ++ first.inside) ++ parts.back;
      split = parts.joined ∙ ap (λ xs. xs ++ parts.back) first.at.encoded;
    }

more_fields_begin : (tag : ℕ) (content second rest : Option (List ℕ)) (back : List ℕ)
    → join (join (element_of tag content) second) rest ≡ Some back
    → BeginsWith tag back
more_fields_begin tag content second rest back e =
    let parts = parted (join (element_of tag content) second) rest back e in
    let first = fields_begin tag content second parts.front parts.first_there in
    record {
      rest = first.rest ++ parts.back;
      split = parts.joined ∙ ap (λ xs. xs ++ parts.back) first.split;
    }

-- a key by itself isn't read as a container
pub key_form : (key : Key) (bytes : List ℕ) → IsKeyOf key bytes → has_algorithm bytes ≡ false
key_form key bytes is =
    form_of 1 0x04 _ bytes (key_written key bytes is) (fields_begin 0x04 (Some key.private_key) _)

version_form : (version : ℕ) (container : OneAsymmetricKey) (bytes : List ℕ)
    → element_of 0x30 (container_content version container) ≡ Some bytes
    → has_algorithm bytes ≡ true
version_form version container bytes is =
    form_of version 0x30 _ bytes is
    (more_fields_begin 0x30 (algorithm_content container.algorithm) (element_of 0x04 (Some container.private_key))
    (after_key container))

-- a container is
pub container_form : (container : OneAsymmetricKey) (bytes : List ℕ) → IsContainer container bytes
    → has_algorithm bytes ≡ true
container_form container bytes (inl is) = version_form 0 container bytes is.bytes_are
container_form container bytes (inr is) = version_form 1 container bytes is

pub key_in_form : (container : OneAsymmetricKey) (curve : Curve) (key : Key) (bytes : List ℕ)
    → IsKeyIn container curve key bytes
    → has_algorithm bytes ≡ true
key_in_form container curve key bytes is = container_form container bytes is.is_container

-- bytes aren't read as both
pub apart : (bytes : List ℕ) (tested : Bool) → tested ≡ has_algorithm bytes → tested ≡ false
    → has_algorithm bytes ≡ true → ⊥
apart bytes tested is fails holds = absurd (cc (sym holds ∙ (sym is ∙ fails)))

pub ruleset forms_apart = (key_form, container_form, key_in_form)

-- ---- the places

-- bytes at a place in those at a place
at_place : (input : List ℕ) (start most offset len : ℕ) → offset + len ≤ most
    → take len (drop offset (take most (drop start input))) ≡ take len (drop (start + offset) input)
at_place input start most offset len fits =
    let whole : offset + (most - offset) ≡ most = omega (arith, fits) in
    let front = rw whole at (drop-take offset (most - offset) (drop start input)) in
    rw (
      front,
      take-take len (most - offset) (drop offset (drop start input)) (omega (arith, fits)),
      drop-drop offset start input,
    )
    refl

moved : (start : ℕ) (part : Span) → part.present ≡ 1
    → span_shifted start part ≡ record { offset = start + part.offset; len = part.len; present = part.present }
moved start part is =
    let present : (part.present == 0) ≡ false = rw is refl in
    ap (λ b. if b then part else record { offset = start + part.offset; len = part.len; present = part.present })
    present

kept : (start : ℕ) (part : Span) → part.present ≡ 0 → span_shifted start part ≡ part
kept start part is =
    let absent : (part.present == 0) ≡ true = rw is refl in
    ap (λ b. if b then part else record { offset = start + part.offset; len = part.len; present = part.present })
    absent

stands_inside : (input content bytes : List ℕ) (outer inner : Span) → StandsAt input outer content
    → StandsAt content inner bytes
    → StandsAt input (span_shifted outer.offset inner) bytes
stands_inside input content bytes outer inner is inside =
    let short : length content ≤ outer.len = rw (← is.bytes_are) (grind (arith, length-take)) in
    let fits : inner.offset + inner.len ≤ outer.len = omega (arith, inside.within, short) in
    let there : take inner.len (drop inner.offset (take outer.len (drop outer.offset input))) ≡ bytes =
    rw is.bytes_are inside.bytes_are in
    rw (moved outer.offset inner inside.present) (record {
      present = inside.present;
      within = omega (arith, is.within, fits);
      bytes_are = sym (at_place input outer.offset outer.len inner.offset inner.len fits) ∙ there;
    })

part_inside : (input content : List ℕ) (bytes : Option (List ℕ)) (outer inner : Span) → StandsAt input outer content
    → IsPart content inner bytes
    → IsPart input (span_shifted outer.offset inner) bytes
part_inside input content None outer inner is inside = rw (kept outer.offset inner inside.present) inside
part_inside input content (Some bytes) outer inner is inside = stands_inside input content bytes outer inner is inside

-- the parts of the key are at their places in the container
pub are_contained_parts : (container : OneAsymmetricKey) (curve : Curve) (key : Key) (bytes : List ℕ)
    → IsKeyIn container curve key bytes
    → AreContainedPartsOf curve key bytes (contained_places curve container key bytes)
are_contained_parts container curve key bytes is =
    let outer = are_container_parts curve container bytes is.is_container is.on_curve in
    let inner = are_parts key container.private_key is.is_key in
    record {
      private_key = stands_inside bytes container.private_key key.private_key _ _ outer.key inner.private_key;
      curve_is = outer.curve_is;
      public_key = part_inside bytes container.private_key key.public_key _ _ outer.key inner.public_key;
    }

-- the bytes inside end in those of the container
pub inside_fits : (container : OneAsymmetricKey) (curve : Curve) (bytes : List ℕ) → IsContainer container bytes
    → IsOnCurve curve container.algorithm
    → (container_places curve container bytes).key.offset + length container.private_key ≤ length bytes
inside_fits container curve bytes is on = (are_container_parts curve container bytes is on).key.within

-- the curve's identifier in a key ends in it
pub curve_fits : (key : Key) (bytes : List ℕ) → IsKeyOf key bytes
    → (key_places key bytes).curve.offset ≤ length bytes
curve_fits key bytes is =
    let parts = parts_within key bytes (key_places key bytes) (are_parts key bytes is) in omega (arith, parts.curve)

-- the place of the curve's identifier in a key, whose parts have these places
pub no_curve_named : (key : Key) (bytes : List ℕ) (parts : KeyParts) (curve : Curve) → ArePartsOf key bytes parts
    → parts.curve.present ≡ 0 → NamesCurve curve key
no_curve_named key bytes parts curve are none = by key.parameters are.curve
  where
    by : (parameters : Option (List ℕ)) → IsPart bytes parts.curve (option_map content_of parameters)
        → IfSome parameters (λ arcs. curve_arcs curve ≡ arcs)
    by None is = tt
    by (Some arcs) is = absurd (cc (none, is.present))

pub curve_named : (key : Key) (bytes : List ℕ) (parts : KeyParts) → IsKeyOf key bytes → ArePartsOf key bytes parts
    → parts.curve.present ≢ 0
    → IsSomeAnd key.parameters (λ arcs. IsIdentifier arcs (bytes_at bytes parts.curve))
curve_named key bytes parts is are some = by key.parameters is.curve are.curve
  where
    by : (parameters : Option (List ℕ)) → IfSome parameters (λ arcs. IsIdentifier arcs (content_of arcs))
        → IsPart bytes parts.curve (option_map content_of parameters)
        → IsSomeAnd parameters (λ arcs. IsIdentifier arcs (bytes_at bytes parts.curve))
    by None named at = absurd (some at.present)
    by (Some arcs) named at = rw at.bytes_are named

pub ruleset names = (no_curve_named, curve_named)

pub ruleset contained = (are_contained_parts)

pub ruleset inside = (inside_fits, curve_fits)
