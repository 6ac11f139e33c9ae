-- The algorithm of EC keys on a curve, and the keys that are written with it.
use Rattle.std.proofs.Common.{◌≡◌, ◌≤◌, ◌++◌, ◌∷◌, [], ℕ, List, length, take, drop, Option, Some, None, IsSomeAnd}
use Rattle.std.proofs.Common.{◌↔◌, lit≤, refl, sym, ap, ◌∙◌, arith, length-append, true}
use Rattle.std.proofs.Math.Seq.{take-append_seam}
use Rattle.curves.proofs.CurveLemmas.{content-curve_arcs}
use Rattle.curves.specs.Curves.{curve_arcs, curve_content}
use Rattle.curves.specs.declared.curve.Curve.{Curve}
use Rattle.curves.specs.declared.curve.Curve.TheVariants as curves
use Rattle.der_types.proofs.AnyLemmas.{any_there}
use Rattle.der_types.specs.AnyElements.{any_of}
use Rattle.der_types.specs.Contents.{bit_string_content}
use Rattle.der_types.specs.Choices.{optional_bytes}
use Rattle.der_types.specs.Contents.{content_if}
use Rattle.der_types.specs.ObjectIdentifiers.{is_object_identifier}
use Rattle.pkix.specs.EcKeys.{IsOnCurve, ec_public_key}
use Rattle.pkix.specs.Records.{algorithm_content, public_key_content}
use Rattle.pkix.specs.declared.algorithm.AlgorithmIdentifier.{AlgorithmIdentifier}
use Rattle.pkix.specs.declared.private_key.OneAsymmetricKey.{OneAsymmetricKey}
use Rattle.pkix.specs.declared.public_key.SubjectPublicKeyInfo.{SubjectPublicKeyInfo}
use Rattle.sec1.proofs.PointLemmas.{length-enc-le}
use Rattle.sec1.specs.Keys.{Key, IsKeyOf, Exists}
use Rattle.sec1.specs.Points.{IsEncoding}
use Rattle.sec1_der.proofs.ComponentLemmas.{alone}
use Rattle.sec1_der.proofs.ElementLaws.{element_of-some, element_of-within}
use Rattle.sec1_der.proofs.ElementLemmas.{length-header}
use Rattle.sec1_der.proofs.JoinLaws.{parted}
use Rattle.sec1_der.specs.Contents.{are_bits}
use Rattle.sec1_der.specs.Elements.{IsElement, element, element_of, length_octets}
use Rattle.sec1_der.specs.Identifiers.{identifier_content}
use Rattle.sec1_der.specs.Parts.{join}
use Rattle.sec1_c.specs.Containers.{container_content}
use Rattle.sec1_c.specs.FieldLengths.{IsFieldLength}
use Rattle.sec1_c.specs.Outputs.{Writes, WritesIfAny, WritesNothing}
use Rattle.sec1_c.specs.PublicKeys.{IsInfo}
use Rattle.sec1_c.specs.WrittenKeys.{IsContainerOf, IsInfoOf}

-- ---- the identifier of a curve

content_short : (curve : Curve) → length (curve_content curve) ≤ 9
content_short curves.Secp112r1 = lit≤ tt
content_short curve = lit≤ tt

pub element_short : (curve : Curve) → length (element 0x06 (curve_content curve)) ≤ 11
unfolding length_octets
element_short curves.Secp112r1 = lit≤ tt
element_short curve = lit≤ tt

pub curve_element : (curve : Curve)
    → element_of 0x06 (identifier_content (curve_arcs curve)) ≡ Some (element 0x06 (curve_content curve))
curve_element curve =
    element_of-within 0x06 _ (curve_content curve) (content-curve_arcs curve (curve_content curve) refl)
    (omega (arith, content_short curve))

-- what was written is at the beginning of the buffer
pub taken : (encoded : Option (List ℕ)) (n : ℕ) (old new : List ℕ)
    → IsSomeAnd encoded (λ bytes. (n ≡ length bytes) × (new ≡ bytes ++ drop n old))
    → encoded ≡ Some (take n new)
taken None n old new is = absurd is
taken (Some bytes) n old new is =
    let front : take n new ≡ bytes = rw (is.1, is.0) (take-append_seam bytes (drop (length bytes) old)) in
    ap Some (sym front)

pub ruleset curve_elements = (curve_element, element_short, taken)

is_element : (curve : Curve) → IsElement (element 0x06 (curve_content curve))
is_element curve = record {
  tag = 0x06;
  content = curve_content curve;
  is_header = record { tag_byte = refl; bounded = omega (arith, content_short curve) };
  encoded = refl;
}

pub curve_is_element : (curve : Curve) (bytes : List ℕ)
    → element_of 0x06 (identifier_content (curve_arcs curve)) ≡ Some bytes
    → IsElement bytes
curve_is_element curve bytes e =
    let same : element 0x06 (curve_content curve) ≡ bytes = cc (sym (curve_element curve) ∙ e) in
    rw (← same) (is_element curve)

-- ---- the algorithm

abbrev algorithm_bytes : Curve → List ℕ
algorithm_bytes curve = element 0x30 (element 0x06 ec_public_key ++ element 0x06 (curve_content curve))

inside_short : (curve : Curve) → length (element 0x06 ec_public_key ++ element 0x06 (curve_content curve)) ≤ 20
unfolding length_octets
inside_short curves.Secp112r1 = lit≤ tt
inside_short curve = lit≤ tt

inside_there : (curve : Curve) (identifier : List ℕ) (parameters : Option (List ℕ)) → identifier ≡ ec_public_key
    → IsSomeAnd parameters (λ bytes. element_of 0x06 (identifier_content (curve_arcs curve)) ≡ Some bytes)
    → join (element_of 0x06 (content_if is_object_identifier identifier)) (optional_bytes any_of parameters)
    ≡ Some (element 0x06 ec_public_key ++ element 0x06 (curve_content curve))
inside_there curve identifier None is names = absurd names
inside_there curve identifier (Some bytes) is names =
    let same : bytes ≡ element 0x06 (curve_content curve) = cc (sym names ∙ curve_element curve) in
    let any = any_there bytes (curve_is_element curve bytes names) in
    rw (is, any, same) refl

algorithm_there : (curve : Curve) (algorithm : AlgorithmIdentifier) → IsOnCurve curve algorithm
    → element_of 0x30 (algorithm_content algorithm) ≡ Some (algorithm_bytes curve)
algorithm_there curve algorithm on =
    element_of-within 0x30 (algorithm_content algorithm) _
    (inside_there curve algorithm.algorithm algorithm.parameters on.0 on.1)
    (omega (arith, inside_short curve))

algorithm_short : (curve : Curve) → length (algorithm_bytes curve) ≤ 26
algorithm_short curve =
    let inside = element 0x06 ec_public_key ++ element 0x06 (curve_content curve) in
    let few = length-header 0x30 (length inside) (omega (arith, inside_short curve)) in
    grind (arith, length-append, inside_short curve)

-- ---- public keys

-- the encoding of a point is short
pub point_short : (n : ℕ) (bytes : List ℕ) → IsFieldLength n → IsEncoding n bytes → length bytes ≤ 133
point_short n bytes fits is = rw is.encoded (omega (arith, fits.1, length-enc-le n is.of))

whole_are_bits : (key : List ℕ) → are_bits 0 key ≡ true
whole_are_bits [] = refl
whole_are_bits (byte ∷ bytes) = grind arith

info_there : (curve : Curve) (info : SubjectPublicKeyInfo) (key : List ℕ) → IsOnCurve curve info.algorithm
    → info.public_key ≡ record { unused = 0; bytes = key } → length key ≤ 133
    → IsInfo info (element 0x30 (algorithm_bytes curve ++ element 0x03 (0 ∷ key)))
info_there curve info key on is few =
    let bits = element_of-within 0x03 (bit_string_content (record { unused = 0; bytes = key })) (0 ∷ key)
    (rw (whole_are_bits key) refl) (omega (arith, few)) in
    let last = length-header 0x03 (length (0 ∷ key)) (omega (arith, few)) in
    element_of-within 0x30 (public_key_content info) (algorithm_bytes curve ++ element 0x03 (0 ∷ key))
    (rw (algorithm_there curve info.algorithm on, is, bits) refl)
    (grind (arith, length-append, algorithm_short curve))

pub info_written : (curve : Curve) (info : SubjectPublicKeyInfo) (key old new : List ℕ) (result len_old len_new : ℕ)
    → IsOnCurve curve info.algorithm → info.public_key ≡ record { unused = 0; bytes = key } → length key ≤ 133
    → WritesIfAny (element_of 0x30 (public_key_content info)) old new result len_old len_new
    → Exists (IsInfoOf curve key) (λ bytes. Writes bytes old new result len_new)
info_written curve info key old new result len_old len_new on is few writes =
    let there = info_there curve info key on is few in
    record {
      bytes = element 0x30 (algorithm_bytes curve ++ element 0x03 (0 ∷ key));
      such = record { info = info; on_curve = on; key_is = is; is_info = there };
      holds = rw there at writes;
    }

-- ---- private keys

-- the container of a key, whose encoding is this
abbrev contained : Curve → Option (List ℕ) → Option (List ℕ)
contained curve encoded =
    element_of 0x30
    (join (element_of 0x02 (Some (0 ∷ []))) (join (Some (algorithm_bytes curve)) (element_of 0x04 encoded)))

container_there : (curve : Curve) (key : Key) (encoded : Option (List ℕ)) (bytes : List ℕ)
    → ((inside : List ℕ) → IsKeyOf key inside → encoded ≡ Some inside)
    → IsContainerOf curve key bytes
    → contained curve encoded ≡ Some bytes
container_there curve key encoded bytes there is =
    let algorithm = algorithm_there curve is.container.algorithm is.on_curve in
    let same = there is.container.private_key is.is_key in
    let whole = is.is_container.bytes_are in
    let parts = rw (algorithm, is.no_attributes, is.is_container.no_public_key) at whole in
    rw (same, ← alone (join (Some (algorithm_bytes curve)) (element_of 0x04 (Some is.container.private_key)))) parts

same_content : (curve : Curve) (algorithm : AlgorithmIdentifier) (encoded : Option (List ℕ)) (inside : List ℕ)
    → IsOnCurve curve algorithm → encoded ≡ Some inside
    → container_content 0
    (record { algorithm = algorithm; private_key = inside; attributes = None; public_key = None })
    ≡ join (element_of 0x02 (Some (0 ∷ []))) (join (Some (algorithm_bytes curve)) (element_of 0x04 encoded))
same_content curve algorithm encoded inside on e =
    rw (algorithm_there curve algorithm on, e) (ap (join (element_of 0x02 (Some (0 ∷ []))))
    (alone (join (Some (algorithm_bytes curve)) (element_of 0x04 (Some inside)))))

container_found : (curve : Curve) (algorithm : AlgorithmIdentifier) (key : Key) (encoded : Option (List ℕ))
    (bytes : List ℕ)
    → IsOnCurve curve algorithm
    → ((inside : List ℕ) → encoded ≡ Some inside → IsKeyOf key inside)
    → contained curve encoded ≡ Some bytes
    → IsContainerOf curve key bytes
container_found curve algorithm key encoded bytes on found is =
    let version = element_of 0x02 (Some (0 ∷ [])) in
    let both = join (Some (algorithm_bytes curve)) (element_of 0x04 encoded) in
    let whole = element_of-some 0x30 (join version both) bytes is in
    let rest = parted version both whole.inside whole.same in
    let parts = parted (Some (algorithm_bytes curve)) (element_of 0x04 encoded) rest.back rest.second_there in
    let octets = element_of-some 0x04 encoded parts.back parts.second_there in
    let container : OneAsymmetricKey = record {
      algorithm = algorithm;
      private_key = octets.inside;
      attributes = None;
      public_key = None;
    } in
    record {
      container = container;
      on_curve = on;
      is_key = found octets.inside octets.same;
      no_attributes = refl;
      is_container = record {
        no_public_key = refl;
        bytes_are = ap (element_of 0x30) (same_content curve algorithm encoded octets.inside on octets.same) ∙ is;
      };
    }

-- What the bytes of a container are, by those of the key in it.
pub record Contains (curve : Curve) (key : Key) (content : Option (List ℕ)) : Type 0 where
  pub there : (bytes : List ℕ) → IsContainerOf curve key bytes → element_of 0x30 content ≡ Some bytes
  pub found : (bytes : List ℕ) → element_of 0x30 content ≡ Some bytes → IsContainerOf curve key bytes

pub contains : (curve : Curve) (algorithm : AlgorithmIdentifier) (key : Key) (encoded : Option (List ℕ))
    → IsOnCurve curve algorithm → ((inside : List ℕ) → IsKeyOf key inside ↔ (encoded ≡ Some inside))
    → Contains curve key
    (join (element_of 0x02 (Some (0 ∷ [])))
    (join (element_of 0x30 (algorithm_content algorithm)) (element_of 0x04 encoded)))
contains curve algorithm key encoded on tells =
    let there = algorithm_there curve algorithm on in
    record {
      there = λ bytes is. rw there (container_there curve key encoded bytes (λ inside is. (tells inside).0 is) is);
      found = λ bytes is. container_found curve algorithm key encoded bytes on (λ inside e. (tells inside).1 e)
          (rw there at is);
    }

-- what is written if there is a container, and if there is none
pub written : (content : Option (List ℕ)) (bytes old new : List ℕ) (result len_old len_new : ℕ)
    → WritesIfAny content old new result len_old len_new → content ≡ Some bytes
    → Writes bytes old new result len_new
written content bytes old new result len_old len_new writes e = rw e at writes

pub unwritten : (content : Option (List ℕ)) (old new : List ℕ) (result len_old len_new : ℕ)
    → WritesIfAny content old new result len_old len_new → ((bytes : List ℕ) → content ≡ Some bytes → ⊥)
    → WritesNothing 6 old new result len_old len_new
unwritten None old new result len_old len_new writes none = writes
unwritten (Some bytes) old new result len_old len_new writes none = absurd (none bytes refl)
