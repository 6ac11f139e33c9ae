-- The places of a key's parts.
use Rattle.std.proofs.Common.{◌≡◌, ◌+◌, ◌++◌, ◌∷◌, [], ℕ, List, length, Option, Some, None, refl, arith, length-append}
use Rattle.std.proofs.Common.{append_assoc}
use Rattle.std.proofs.lemmas.List.{append-nil, take_at, drop_at}
use Rattle.std.specs.Option.{option_map}
use Rattle.sec1_der.specs.Elements.{element, header}
use Rattle.sec1_der.specs.Identifiers.{content_of}
use Rattle.sec1_der.specs.Trees.{leaf, branch, forest, joined}
use Rattle.sec1.specs.Keys.{Key, IsKeyOf}
use Rattle.sec1_c.specs.Places.{StandsAt, IsPart, span_before}
use Rattle.sec1_c.specs.KeyPlaces.{ArePartsOf, AreWithin, content_len, key_places, parameters_bytes, public_key_bytes}
use Rattle.sec1_c.specs.declared.key.KeyParts.{KeyParts}

-- what is between a front and a rest, by where the rest begins
pub stands_before : (input front part rest : List ℕ) (end : ℕ) → input ≡ front ++ (part ++ rest) → end + length rest
    ≡ length input
    → StandsAt input (span_before end (Some (length part))) part
stands_before input front part rest end split ends = grind (arith, take_at, drop_at, length-append)

-- the content of a field ends before the end of the field
field_stands : (outer inner : ℕ) (unused input front part rest : List ℕ) (end : ℕ)
    → input ≡ front ++ (joined (forest (branch outer (forest (leaf inner (unused ++ part) ∷ [])) ∷ [])) ++ rest)
    → end + length rest ≡ length input
    → StandsAt input (span_before end (Some (length part))) part
field_stands outer inner unused input front part rest end split ends =
    let content = unused ++ part in
    let headers = header outer (length (element inner content)) ++ (header inner (length content) ++ unused) in
    stands_before input (front ++ headers) part rest end (grind (arith, append_assoc, append-nil)) ends

-- the content of the curve's identifier ends before the end of the field [0], if present
curve_stands : (input front : List ℕ) (parameters : Option (List ℕ)) (rest : List ℕ) (end : ℕ)
    → input ≡ front ++ (parameters_bytes parameters ++ rest) → end + length rest ≡ length input
    → IsPart input (span_before end (option_map content_len parameters)) (option_map content_of parameters)
curve_stands input front None rest end split ends = record { present = refl; offset = refl; len = refl }
curve_stands input front (Some arcs) rest end split ends =
    field_stands 0xA0 0x06 [] input front (content_of arcs) rest end split ends

-- the bytes of the public key end before the end of the field [1], if present
public_stands : (input front : List ℕ) (public_key : Option (List ℕ)) → input ≡ front
    ++ public_key_bytes public_key
    → IsPart input (span_before (length input) (option_map (λ bytes. length bytes) public_key)) public_key
public_stands input front None split = record { present = refl; offset = refl; len = refl }
public_stands input front (Some bytes) split =
    field_stands 0xA1 0x03 (0 ∷ []) input front bytes [] (length input) (grind (arith, append-nil)) (omega arith)

-- the parts of a key are at its places
pub are_parts : (key : Key) (input : List ℕ) → IsKeyOf key input → ArePartsOf key input (key_places key input)
are_parts key input is =
    let p = key.private_key in
    let c = parameters_bytes key.parameters in
    let q = public_key_bytes key.public_key in
    let content = element 0x02 (1 ∷ []) ++ (element 0x04 p ++ (c ++ q)) in
    let front = header 0x30 (length content) ++ (element 0x02 (1 ∷ []) ++ header 0x04 (length p)) in
    let split : input ≡ front ++ (p ++ (c ++ q)) = grind (arith, append_assoc, append-nil) in
    record {
      private_key = stands_before input front p (c ++ q) _ split (grind (arith, length-append));
      curve = curve_stands input (front ++ p) key.parameters q _ (grind (arith, append_assoc))
          (grind (arith, length-append));
      public_key = public_stands input (front ++ (p ++ c)) key.public_key (grind (arith, append_assoc));
    }

-- the places of a key's parts are within the input
pub parts_within : (key : Key) (input : List ℕ) (parts : KeyParts) → ArePartsOf key input parts → AreWithin input parts
parts_within key input parts are = grind arith

-- The parts of a key at their places.
pub ruleset parts_placed = (are_parts, parts_within)
