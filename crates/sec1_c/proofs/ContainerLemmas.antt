-- Containers of private keys: which version is read, and the places of the parts.
use Rattle.std.proofs.Common.{◌≡◌, ◌≢◌, ◌==◌, inl, inr, ◌+◌, ◌≤◌, ◌++◌, ◌∷◌, [], ℕ, List, length}
use Rattle.std.proofs.Common.{Bool, true, false, if◌then◌else◌, Option, Some, None, Result, Ok, Err, IsSome, ap, refl}
use Rattle.std.proofs.Common.{sym, ◌∙◌, lit≤, arith, length-append, append_assoc}
use Rattle.std.proofs.lemmas.List.{append-nil}
use Rattle.std.proofs.lemmas.Slice.Eq.{bytes_eq-Decides}
use Rattle.std.specs.Option.{option_map, option_or}
use Rattle.std.specs.Str.{bytes_eq}
use Rattle.curves.specs.Curves.{curve_content}
use Rattle.curves.specs.declared.curve.Curve.{Curve}
use Rattle.der_types.specs.Contents.{BitString}
use Rattle.std.specs.Prelude.{is_none}
use Rattle.der_types.specs.Sequences.{set_fault, set_of}
use Rattle.pkix.specs.EcKeys.{IsOnCurve}
use Rattle.pkix.specs.Records.{algorithm_content, algorithm_fault, asymmetric_key_fault, key_attribute_fault}
use Rattle.pkix.specs.Records.{private_key_content, private_key_fault}
use Rattle.pkix.specs.declared.private_key.OneAsymmetricKey.{OneAsymmetricKey}
use Rattle.pkix.specs.declared.private_key.PrivateKeyInfo.{PrivateKeyInfo}
use Rattle.sec1_der.proofs.ComponentLemmas as components
use Rattle.sec1_der.specs.Contents.{byte_fault, value_unless}
use Rattle.sec1_der.proofs.ElementLaws.{element_of-some}
use Rattle.sec1_der.specs.Elements.{element, element_of, header, max_length, within_limit}
use Rattle.sec1_der.proofs.JoinLaws.{parted}
use Rattle.sec1_der.specs.Parts.{join, optional_of}
use Rattle.sec1_der.proofs.FaultLaws.{element_at}
use Rattle.sec1_der.proofs.KindLaws.{element_says, end_says, said_kind}
use Rattle.pkix.proofs.KindLaws.{private_key_says}
use Rattle.sec1_der.specs.Faults.{Fault, IsFaultOf, element_fault, end_fault, length_at, no_fault, optional_fault}
use Rattle.sec1_der.specs.Faults.{parts_fault, split_content}
use Rattle.sec1_der.specs.declared.error.Error.{Error}
use Rattle.sec1_der.specs.declared.error.ErrorKind.{ErrorKind}
use Rattle.sec1_der.specs.declared.error.ErrorKind.TheVariants.{Tag, Value}
use Rattle.sec1_c.specs.Containers.{AreContainerPartsOf, IsContainer, IsVersionZero, after_key}
use Rattle.der_view.specs.Containers.{container_fault, has_version_one}
use Rattle.sec1_c.specs.Containers.{container_content, container_places}
use Rattle.sec1_c.specs.Containers.{of_version_zero}
use Rattle.sec1_c.specs.Fields.{bytes_len}
use Rattle.sec1_c.proofs.FieldLemmas.{limited}
use Rattle.sec1_c.proofs.PlaceLemmas.{stands_before}
use Rattle.sec1_c.proofs.PublicKeyLemmas.{algorithm_ends}

-- ---- the version

-- of two faults the second one, if the first is Value
record IsChosen (first second chosen : Option (Option ErrorKind)) : Type 0 where
  by_value : first ≡ Some (Some Value) → chosen ≡ second
  by_other : first ≢ Some (Some Value) → chosen ≡ first

same : (fault : Option (Option ErrorKind)) → IsChosen fault fault fault
same fault = record { by_value = λ _. refl; by_other = λ _. refl }

-- what follows refuses nothing as Value
followed : (first second chosen rest : Option (Option ErrorKind)) → rest ≢ Some (Some Value)
    → IsChosen first second chosen
    → IsChosen (option_or first rest) (option_or second rest) (option_or chosen rest)
followed None second chosen rest other is =
    let e : chosen ≡ None = is.by_other (λ e. absurd (cc e)) in
    record { by_value = λ e. absurd (other e); by_other = λ _. rw e refl }
followed (Some said) second chosen rest other is = record {
  by_value = λ e. rw (is.by_value e) refl;
  by_other = λ e. rw (is.by_other e) refl;
}

no_value : (bytes : List ℕ) → end_fault bytes ≢ Some (Some Value)
no_value [] = λ e. absurd (cc e)
no_value (byte ∷ bytes) = λ e. absurd (cc e)

-- the faults of an element are chosen as those of its content
whole_chosen : (f g h : Fault) (tag : ℕ) (bytes : List ℕ)
    → ((content : List ℕ) → IsChosen (f content) (g content) (h content))
    → IsChosen (element_fault tag f end_fault bytes) (element_fault tag g end_fault bytes)
    (element_fault tag h end_fault bytes)
whole_chosen f g h tag [] content = same _
whole_chosen f g h tag (byte ∷ bytes) content = by (byte == tag) (split_content (length_at bytes))
  where
    by : (b : Bool) (found : Result (List ℕ × List ℕ) ErrorKind)
        → IsChosen (if b then parts_fault f end_fault found else Some (Some Tag))
        (if b then parts_fault g end_fault found else Some (Some Tag))
        (if b then parts_fault h end_fault found else Some (Some Tag))
    by false found = same (Some (Some Tag))
    by true (Err kind) = same (Some (Some kind))
    by true (Ok x) = followed (f x.0) (g x.0) (h x.0) (end_fault x.1) (no_value x.1) (content x.0)

-- no content is both versions
not_both : (content : List ℕ) → bytes_eq content (1 ∷ []) ≡ true → bytes_eq content (0 ∷ []) ≡ false
not_both content one = by (bytes_eq content (0 ∷ [])) refl
  where
    by : (zero : Bool) → bytes_eq content (0 ∷ []) ≡ zero → zero ≡ false
    by false e = refl
    by true e =
        let is_one = (bytes_eq-Decides content (1 ∷ [])).0 one in
        let is_zero = (bytes_eq-Decides content (0 ∷ [])).0 e in
        absurd (cc (sym is_one ∙ is_zero))

-- of a content that begins with an INTEGER, by the versions that it is
version_chosen : (f g : Fault) (content : List ℕ)
    → IsChosen (element_fault 0x02 (byte_fault 0) f content) (element_fault 0x02 (byte_fault 1) g content)
    (if has_version_one content then element_fault 0x02 (byte_fault 1) g content
    else element_fault 0x02 (byte_fault 0) f content)
version_chosen f g [] = record { by_value = λ e. absurd (cc e); by_other = λ _. refl }
version_chosen f g (byte ∷ bytes) = by (byte == 0x02) (split_content (length_at bytes))
  where
    versions : (one zero : Bool) (p q : Option (Option ErrorKind)) → (one ≡ true → zero ≡ false)
        → IsChosen (option_or (value_unless zero) p) (option_or (value_unless one) q)
        (if is_none (option_or (value_unless one) None) then option_or (value_unless one) q
        else option_or (value_unless zero) p)
    versions true true p q differ = absurd (cc (differ refl))
    versions true false p q differ = record { by_value = λ _. refl; by_other = λ e. absurd (e refl) }
    versions false true p q differ = record { by_value = λ e. e; by_other = λ _. refl }
    versions false false p q differ = record { by_value = λ _. refl; by_other = λ _. refl }

    by : (b : Bool) (found : Result (List ℕ × List ℕ) ErrorKind)
        → IsChosen (if b then parts_fault (byte_fault 0) f found else Some (Some Tag))
        (if b then parts_fault (byte_fault 1) g found else Some (Some Tag))
        (if is_none (if b then parts_fault (byte_fault 1) no_fault found else Some (Some Tag))
        then (if b then parts_fault (byte_fault 1) g found else Some (Some Tag))
        else (if b then parts_fault (byte_fault 0) f found else Some (Some Tag)))
    by false found = same (Some (Some Tag))
    by true (Err kind) = same (Some (Some kind))
    by true (Ok x) =
        versions (bytes_eq x.0 (1 ∷ [])) (bytes_eq x.0 (0 ∷ [])) (f x.1) (g x.1) (not_both x.0)

-- what follows the version in version 0
abbrev after_version : Fault
after_version =
    element_fault 0x30 algorithm_fault
    (element_fault 0x04 no_fault (optional_fault 0xA0 (set_fault 0x30 key_attribute_fault) end_fault))

-- the kinds by which bytes are refused as a container of version 0 and of version 1
abbrev pub zero_fault : Fault
zero_fault = element_fault 0x30 private_key_fault end_fault

abbrev pub one_fault : Fault
one_fault = element_fault 0x30 asymmetric_key_fault end_fault

-- a container is refused by the fault of version 0, or by that of version 1 where the first is Value
chosen : (bytes : List ℕ)
    → IsChosen (zero_fault bytes) (one_fault bytes) (element_fault 0x30 container_fault end_fault bytes)
chosen bytes =
    whole_chosen private_key_fault asymmetric_key_fault container_fault 0x30 bytes (version_chosen _ _)

-- the kind by which bytes are refused as a container of version 0
pub zero_kind : (bytes : List ℕ) (kind : ErrorKind) → IsFaultOf (zero_fault bytes) kind
    → zero_fault bytes ≡ Some (Some kind)
zero_kind bytes kind is =
    said_kind zero_fault bytes kind (element_says 0x30 private_key_fault end_fault private_key_says end_says) is

pub by_value : (bytes : List ℕ) (kind : ErrorKind) → zero_fault bytes ≡ Some (Some kind) → kind ≡ Value
    → element_fault 0x30 container_fault end_fault bytes ≡ one_fault bytes
by_value bytes kind e is = (chosen bytes).by_value (e ∙ ap (λ k. Some (Some k)) is)

pub by_other : (bytes : List ℕ) (kind : ErrorKind) → zero_fault bytes ≡ Some (Some kind) → kind ≢ Value
    → element_fault 0x30 container_fault end_fault bytes ≡ Some (Some kind)
by_other bytes kind e other = (chosen bytes).by_other (λ is. other (cc (sym e ∙ is))) ∙ e

-- a container of version 1 is refused as one of version 0 by Value
other_version : (container : OneAsymmetricKey) (bytes : List ℕ)
    → element_of 0x30 (container_content 1 container) ≡ Some bytes
    → zero_fault bytes ≡ Some (Some Value)
other_version container bytes is =
    let whole = element_of-some 0x30 (container_content 1 container) bytes is in
    let rest = parted (element_of 0x02 (Some (1 ∷ []))) _ whole.inside whole.same in
    let version : rest.front ≡ element 0x02 (1 ∷ []) = cc rest.first_there in
    let split : whole.inside ≡ element 0x02 (1 ∷ []) ++ rest.back = grind (arith, rest.joined, version) in
    let first = element_at (byte_fault 0) after_version 0x02 (1 ∷ []) whole.inside rest.back (lit≤ tt) split in
    let outer = element_at private_key_fault end_fault 0x30 whole.inside bytes []
    whole.at.bounded (grind (arith, append-nil, whole.at.encoded)) in
    outer ∙ ap (λ (fault : Option (Option ErrorKind)). option_or fault None) first

join_assoc : (a b c : Option (List ℕ)) → join (join a b) c ≡ join a (join b c)
join_assoc None b c = refl
join_assoc (Some a) None c = refl
join_assoc (Some a) (Some b) None = refl
join_assoc (Some a) (Some b) (Some c) = ap Some (append_assoc a b c)

regrouped : (info : PrivateKeyInfo) → private_key_content info ≡ container_content 0 (of_version_zero info)
regrouped info =
    let algorithm = element_of 0x30 (algorithm_content info.algorithm) in
    let key = element_of 0x04 (Some info.private_key) in
    let attributes = optional_of 0xA0 (option_map (set_of 0x30 key_attribute_fault) info.attributes) in
    ap (join (element_of 0x02 (Some (0 ∷ []))))
    (sym (join_assoc algorithm key attributes) ∙ ap (join (join algorithm key)) (sym (components.alone attributes)))

-- a PrivateKeyInfo is a container of version 0
pub is_container : (info : PrivateKeyInfo) (bytes : List ℕ) → element_of 0x30 (private_key_content info) ≡ Some bytes
    → IsContainer (of_version_zero info) bytes
is_container info bytes is =
    inl (record { no_public_key = refl; bytes_are = sym (ap (element_of 0x30) (regrouped info)) ∙ is })

-- a container of version 0 is a PrivateKeyInfo
record IsInfo (container : OneAsymmetricKey) (bytes : List ℕ) : Type 0 where
  info : PrivateKeyInfo
  same : of_version_zero info ≡ container
  bytes_are : element_of 0x30 (private_key_content info) ≡ Some bytes

is_info : (container : OneAsymmetricKey) (bytes : List ℕ) → IsVersionZero container bytes → IsInfo container bytes
is_info container bytes is =
    let info : PrivateKeyInfo = record {
      algorithm = container.algorithm;
      private_key = container.private_key;
      attributes = container.attributes;
    } in
    let same : of_version_zero info ≡ container = ap
    (λ (key : Option BitString). record {
      algorithm = container.algorithm;
      private_key = container.private_key;
      attributes = container.attributes;
      public_key = key;
    }) (sym is.no_public_key) in
    record {
      info = info;
      same = same;
      bytes_are = ap (element_of 0x30) (regrouped info ∙ ap (container_content 0) same) ∙ is.bytes_are;
    }

-- what is read as a PrivateKeyInfo is the only container
pub only_zero : (info : PrivateKeyInfo) (container : OneAsymmetricKey) (bytes : List ℕ) → zero_fault bytes ≡ None
    → ((found : PrivateKeyInfo) → element_of 0x30 (private_key_content found) ≡ Some bytes
    → ◌≡◌ {A = Result PrivateKeyInfo Error} (Ok info) (Ok found))
    → IsContainer container bytes
    → of_version_zero info ≡ container
only_zero info container bytes passes only (inl is) =
    let zero = is_info container bytes is in
    let same : info ≡ zero.info = cc (only zero.info zero.bytes_are) in
    ap of_version_zero same ∙ zero.same
only_zero info container bytes passes only (inr is) = absurd (cc (sym passes ∙ other_version container bytes is))

-- a container that isn't read as a PrivateKeyInfo is of version 1
pub only_one : (error : Error) (container : OneAsymmetricKey) (bytes : List ℕ)
    → ((found : PrivateKeyInfo) → element_of 0x30 (private_key_content found) ≡ Some bytes → Err error ≡ Ok found)
    → IsContainer container bytes
    → element_of 0x30 (container_content 1 container) ≡ Some bytes
only_one error container bytes only (inl is) =
    let zero = is_info container bytes is in
    absurd (cc (only zero.info zero.bytes_are))
only_one error container bytes only (inr is) = is

-- what is refused by another kind than Value is no container
pub no_other : (error : Error) (container : OneAsymmetricKey) (bytes : List ℕ)
    → ((found : PrivateKeyInfo) → element_of 0x30 (private_key_content found) ≡ Some bytes → Err error ≡ Ok found)
    → zero_fault bytes ≡ Some (Some error.kind) → error.kind ≢ Value → IsContainer container bytes → ⊥
no_other error container bytes only e other is =
    other (cc (sym e ∙ other_version container bytes (only_one error container bytes only is)))

-- ---- the places

-- A container is a front, the content of its curve's identifier, the OCTET STRING, and what follows that.
record IsSplit (curve : Curve) (container : OneAsymmetricKey) (bytes : List ℕ) : Type 0 where
  front : List ℕ
  rest : List ℕ
  rest_there : after_key container ≡ Some rest
  split : bytes ≡ front ++ (curve_content curve ++ (element 0x04 container.private_key ++ rest))
  key_there : element_of 0x04 (Some container.private_key) ≡ Some (element 0x04 container.private_key)
  bounded : length (element 0x04 container.private_key) + length rest ≤ max_length

split_version : (version : ℕ) (curve : Curve) (container : OneAsymmetricKey) (bytes : List ℕ)
    → element_of 0x30 (container_content version container) ≡ Some bytes
    → IsOnCurve curve container.algorithm
    → IsSplit curve container bytes
split_version version curve container bytes is on =
    let whole = element_of-some 0x30 (container_content version container) bytes is in
    let rest = parted (element_of 0x02 (Some (version ∷ []))) _ whole.inside whole.same in
    let fields = parted _ (after_key container) rest.back rest.second_there in
    let parts = parted (element_of 0x30 (algorithm_content container.algorithm))
    (element_of 0x04 (Some container.private_key)) fields.front fields.first_there in
    let algorithm = algorithm_ends curve container.algorithm parts.front on parts.first_there in
    let key = element_of-some 0x04 (Some container.private_key) parts.back parts.second_there in
    let content : key.inside ≡ container.private_key = cc key.same in
    let field : parts.back ≡ element 0x04 container.private_key = key.at.encoded ∙ ap (element 0x04) content in
    record {
      front = header 0x30 (length whole.inside) ++ (rest.front ++ algorithm.front);
      rest = fields.back;
      rest_there = fields.second_there;
      split = grind (arith, append_assoc);
      key_there = parts.second_there ∙ ap Some field;
      bounded = grind (arith, length-append, whole.at.bounded);
    }

split_container : (curve : Curve) (container : OneAsymmetricKey) (bytes : List ℕ) → IsContainer container bytes
    → IsOnCurve curve container.algorithm
    → IsSplit curve container bytes
split_container curve container bytes (inl is) on = split_version 0 curve container bytes is.bytes_are on
split_container curve container bytes (inr is) on = split_version 1 curve container bytes is on

-- the parts of a private key are at its places
pub are_container_parts : (curve : Curve) (container : OneAsymmetricKey) (bytes : List ℕ) → IsContainer container bytes
    → IsOnCurve curve container.algorithm
    → AreContainerPartsOf curve container bytes (container_places curve container bytes)
are_container_parts curve container bytes is on =
    let parts = split_container curve container bytes is on in
    let content = curve_content curve in
    let key = container.private_key in
    let field = element 0x04 key in
    let front = parts.front ++ (content ++ header 0x04 (length key)) in
    record {
      curve_is = rw (parts.rest_there, parts.key_there)
          (stands_before bytes parts.front content (field ++ parts.rest) _ parts.split
          (grind (arith, length-append)));
      key = rw (parts.rest_there)
          (stands_before bytes front key parts.rest _ (grind (arith, append_assoc)) (grind (arith, length-append)));
    }

-- The lengths of the fields can be computed, and have room in the bytes of a container.
pub record HaveRoom (curve : Curve) (container : OneAsymmetricKey) (bytes : List ℕ) : Type 0 where
  pub rest : IsSome (within_limit (after_key container))
  pub key : IsSome (within_limit (element_of 0x04 (Some container.private_key)))
  pub room :
      length (curve_content curve)
      + (bytes_len (element_of 0x04 (Some container.private_key)) + bytes_len (after_key container)) ≤ length bytes
  pub content : length container.private_key + bytes_len (after_key container) ≤ length bytes

pub parts_fit : (curve : Curve) (container : OneAsymmetricKey) (bytes : List ℕ) → IsContainer container bytes
    → IsOnCurve curve container.algorithm
    → HaveRoom curve container bytes
parts_fit curve container bytes is on =
    let parts = split_container curve container bytes is on in
    record {
      rest = limited (after_key container) parts.rest parts.rest_there (omega (arith, parts.bounded));
      key = limited _ (element 0x04 container.private_key) parts.key_there (omega (arith, parts.bounded));
      room = rw (parts.key_there, parts.rest_there) (grind (arith, length-append));
      content = rw (parts.rest_there) (grind (arith, length-append));
    }

-- A container is a front, the algorithm, the OCTET STRING, and what follows that.
record IsParted (container : OneAsymmetricKey) (bytes : List ℕ) : Type 0 where
  front : List ℕ
  algorithm : List ℕ
  key : List ℕ
  rest : List ℕ
  algorithm_there : element_of 0x30 (algorithm_content container.algorithm) ≡ Some algorithm
  key_there : element_of 0x04 (Some container.private_key) ≡ Some key
  rest_there : after_key container ≡ Some rest
  split : bytes ≡ front ++ (algorithm ++ (key ++ rest))
  bounded : length algorithm + (length key + length rest) ≤ max_length

part_version : (version : ℕ) (container : OneAsymmetricKey) (bytes : List ℕ)
    → element_of 0x30 (container_content version container) ≡ Some bytes
    → IsParted container bytes
part_version version container bytes is =
    let whole = element_of-some 0x30 (container_content version container) bytes is in
    let rest = parted (element_of 0x02 (Some (version ∷ []))) _ whole.inside whole.same in
    let fields = parted _ (after_key container) rest.back rest.second_there in
    let parts = parted (element_of 0x30 (algorithm_content container.algorithm))
    (element_of 0x04 (Some container.private_key)) fields.front fields.first_there in
    record {
      front = header 0x30 (length whole.inside) ++ rest.front;
      algorithm = parts.front;
      key = parts.back;
      rest = fields.back;
      algorithm_there = parts.first_there;
      key_there = parts.second_there;
      rest_there = fields.second_there;
      split = grind (arith, append_assoc);
      bounded = grind (arith, length-append, whole.at.bounded);
    }

part_container : (container : OneAsymmetricKey) (bytes : List ℕ) → IsContainer container bytes
    → IsParted container bytes
part_container container bytes (inl is) = part_version 0 container bytes is.bytes_are
part_container container bytes (inr is) = part_version 1 container bytes is

-- The lengths of the algorithm and of what follows it can be computed, and have room in the bytes of a container.
pub record HaveAlgorithm (container : OneAsymmetricKey) (bytes : List ℕ) : Type 0 where
  pub rest : IsSome (within_limit (after_key container))
  pub key : IsSome (within_limit (element_of 0x04 (Some container.private_key)))
  pub algorithm : IsSome (within_limit (element_of 0x30 (algorithm_content container.algorithm)))
  pub room :
      bytes_len (element_of 0x30 (algorithm_content container.algorithm))
      + (bytes_len (element_of 0x04 (Some container.private_key)) + bytes_len (after_key container)) ≤ length bytes

pub algorithm_fits : (container : OneAsymmetricKey) (bytes : List ℕ) → IsContainer container bytes
    → HaveAlgorithm container bytes
algorithm_fits container bytes is =
    let parts = part_container container bytes is in
    record {
      rest = limited (after_key container) parts.rest parts.rest_there (omega (arith, parts.bounded));
      key = limited _ parts.key parts.key_there (omega (arith, parts.bounded));
      algorithm = limited _ parts.algorithm parts.algorithm_there (omega (arith, parts.bounded));
      room = rw (parts.algorithm_there, parts.key_there, parts.rest_there) (grind (arith, length-append));
    }
