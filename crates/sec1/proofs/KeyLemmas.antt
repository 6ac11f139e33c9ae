-- The content of a key, and the key's bytes.
use Rattle.std.proofs.Common.{◌≡◌, ◌≤◌, ◌∷◌, [], ℕ, List, length, Option, Some, None, option_map, IsSomeAnd}
use Rattle.std.proofs.Common.{refl, append-nil, arith}
use Rattle.std.proofs.Common.{◌⊎◌, ⊎_elim, inl, inr, Result, Ok, Err, IfSome, IsErrAnd, MatchResult}
use Rattle.sec1_der.specs.declared.error.Error.{Error as DerError}
use Rattle.sec1_der.specs.declared.error.ErrorKind.TheVariants.{Overlength, Buffer, Truncated, Memory as DerMemory}
use Rattle.sec1.specs.declared.error.Error.{Error}
use Rattle.sec1.specs.declared.error.Error.TheVariants.{Memory}
use Rattle.sec1.specs.Errors.{IsAsn1, HasNoEncodingOr, error_of}
use Rattle.sec1_der.specs.Elements.{IsProperPrefix, element, max_length}
use Rattle.sec1_der.proofs.ElementLaws.{element_of-within}
use Rattle.sec1.specs.Der.{join, element_of, optional_of, IsTreeOf}
use Rattle.sec1_der.specs.Trees.{bytes as tree_bytes}
use Rattle.sec1_der.specs.Identifiers.{IsIdentifier, content_of, identifier_content}
use Rattle.sec1_der.proofs.IdentifierLaws.{is_identifier-true, identifier_content-valid}
use Rattle.sec1.specs.KeyFaults.{key_fault}
use Rattle.sec1_der.specs.Contents.{byte_fault, identifier_fault, whole_bits_field_fault}
use Rattle.sec1_der.specs.Faults.{Fault, SaysKinds, no_fault, end_fault, element_fault}
use Rattle.sec1_der.proofs.KindLaws.{element_says, optional_says, none_says, end_says, byte_says, identifier_says}
use Rattle.sec1_der.proofs.KindLaws.{field_says}
use Rattle.sec1.specs.Keys.{Key, key_tree, IsKeyOf, Exists}

-- the content of a key with this element of the identifier of its curve
abbrev content_with : Option (Option (List ℕ)) → Key → Option (List ℕ)
content_with curve key =
    join (element_of 0x02 (Some (1 ∷ [])))
    (join (element_of 0x04 (Some key.private_key))
    (join (optional_of 0xA0 curve)
    (optional_of 0xA1 (option_map (λ bytes. element_of 0x03 (Some (0 ∷ bytes))) key.public_key))))

-- SEC1 v2.0 Appendix C.4: the content of a key; one of which a part is beyond the limits has none.
abbrev pub key_content : Key → Option (List ℕ)
key_content key = content_with (option_map (λ arcs. element_of 0x06 (identifier_content arcs)) key.parameters) key

-- the key of these parts
abbrev made : List ℕ → Option (List ℕ) → Option (List ℕ) → Key
made private_key parameters public_key =
    record { private_key = private_key; parameters = parameters; public_key = public_key }

-- Bytes with the content of these arcs, whether or not they are an identifier's, are those of the key's tree.
tree_found : (private_key : List ℕ) (parameters public_key : Option (List ℕ)) (bytes : List ℕ)
    → element_of 0x30
    (content_with (option_map (λ arcs. element_of 0x06 (Some (content_of arcs))) parameters)
    (made private_key parameters public_key)) ≡ Some bytes
    → IsTreeOf (key_tree (made private_key parameters public_key)) bytes
tree_found private_key None None bytes e =
    record { tree = grind (arith, append-nil {A = ℕ}); whole = grind (arith, append-nil {A = ℕ}) }
tree_found private_key None (Some public_key) bytes e =
    record { tree = grind (arith, append-nil {A = ℕ}); whole = grind (arith, append-nil {A = ℕ}) }
tree_found private_key (Some arcs) None bytes e =
    record { tree = grind (arith, append-nil {A = ℕ}); whole = grind (arith, append-nil {A = ℕ}) }
tree_found private_key (Some arcs) (Some public_key) bytes e =
    record { tree = grind (arith, append-nil {A = ℕ}); whole = grind (arith, append-nil {A = ℕ}) }

-- A curve that is named has the content of its identifier.
curve_content : (parameters : Option (List ℕ)) → IfSome parameters (λ arcs. IsIdentifier arcs (content_of arcs))
    → option_map (λ arcs. element_of 0x06 (identifier_content arcs)) parameters
    ≡ option_map (λ arcs. element_of 0x06 (Some (content_of arcs))) parameters
curve_content parameters is = grind (arith, identifier_content-valid)

-- What has a content names its curve.
curve_named : (private_key : List ℕ) (parameters public_key : Option (List ℕ)) (bytes : List ℕ)
    → element_of 0x30 (key_content (made private_key parameters public_key)) ≡ Some bytes
    → IfSome parameters (λ arcs. IsIdentifier arcs (content_of arcs))
curve_named private_key None public_key bytes e = tt
curve_named private_key (Some arcs) public_key bytes e = is_identifier-true arcs (grind arith)

-- A key that has bytes has an element.
pub key_written : (key : Key) (bytes : List ℕ) → IsKeyOf key bytes → element_of 0x30 (key_content key) ≡ Some bytes
key_written key bytes is =
    rw (curve_content key.parameters is.curve)
    (grind (arith, element_of-within, append-nil {A = ℕ}, is.tree.tree, is.tree.whole))

-- What is the element of a key is its bytes.
pub key_found : (key : Key) (bytes : List ℕ) → element_of 0x30 (key_content key) ≡ Some bytes → IsKeyOf key bytes
key_found key bytes e =
    let curve = curve_named key.private_key key.parameters key.public_key bytes e in
    record {
      curve = curve;
      tree = tree_found key.private_key key.parameters key.public_key bytes
          (rw (curve_content key.parameters curve) at e);
    }

found_with : (key : Key) (P : List ℕ → Type 0) (encoded : Option (List ℕ)) → element_of 0x30 (key_content key) ≡ encoded
    → IsSomeAnd encoded P → Exists (IsKeyOf key) P
found_with key P None e h = absurd h
found_with key P (Some bytes) e h = record { bytes = bytes; such = key_found key bytes e; holds = h }

-- What holds of the element of a key holds of its bytes.
pub key_found_with : (key : Key) (P : List ℕ → Type 0) → IsSomeAnd (element_of 0x30 (key_content key)) P
    → Exists (IsKeyOf key) P
key_found_with key P h = found_with key P (element_of 0x30 (key_content key)) refl h

-- An element that ends too early is refused as Truncated: the law `cut_elements` says it.
abbrev pub CutElements : Type 0
CutElements = (inside rest : Fault) (tag : ℕ) (content bytes : List ℕ) → length content ≤ max_length
    → IsProperPrefix bytes (element tag content) → element_fault tag inside rest bytes ≡ Some (Some Truncated)

-- Bytes that a key's continue are refused as Truncated.
pub key_cut : CutElements → (key : Key) (bytes input : List ℕ) → IsKeyOf key bytes → IsProperPrefix input bytes
    → key_fault input ≡ Some (Some Truncated)
unfolding key_fault
key_cut element_cut key bytes input is begins =
    let cut : IsProperPrefix input (tree_bytes (key_tree key)) = rw is.tree.whole at begins in
    search (element_cut, is.tree.tree.2, cut)

-- Each refusal of a key's bytes has a kind.
pub key_says : SaysKinds key_fault
unfolding key_fault
key_says =
    element_says 0x30 _ end_fault
    (element_says 0x02 (byte_fault 1) _ (byte_says 1)
    (element_says 0x04 no_fault _ none_says
    (optional_says 0xA0 _ _ (element_says 0x06 identifier_fault end_fault identifier_says end_says)
    (optional_says 0xA1 whole_bits_field_fault end_fault field_says end_says))))
    end_says

-- A key that has none has no element.
pub key_lacks : (key : Key) → ((bytes : List ℕ) → ¬ IsKeyOf key bytes) → element_of 0x30 (key_content key) ≡ None
key_lacks key none = grind (arith, key_found key)

-- A key that has no element has no bytes.
pub key_none : (key : Key) → element_of 0x30 (key_content key) ≡ None → (bytes : List ℕ) → ¬ IsKeyOf key bytes
key_none key none bytes is = absurd (cc (key_written key bytes is, none))

overlength_is : (cause : DerError) → cause.kind ≡ Overlength → IsAsn1 Overlength (error_of cause)
overlength_is cause same = rw same refl

buffer_is : (cause : DerError) → cause.kind ≡ Buffer → IsAsn1 Buffer (error_of cause)
buffer_is cause same = rw same refl

memory_is : (cause : DerError) → cause.kind ≡ DerMemory → error_of cause ≡ Memory
memory_is cause same = rw same refl

-- A key whose element isn't there, and one whose bytes have no room, are refused as such.
pub key_without_room : (key : Key) (P : List ℕ → Type 0) (cause : DerError)
    → ((cause.kind ≡ Overlength) × (element_of 0x30 (key_content key) ≡ None))
    ⊎ ((cause.kind ≡ Buffer) × IsSomeAnd (element_of 0x30 (key_content key)) P)
    → HasNoEncodingOr (IsAsn1 Buffer) key P (error_of cause)
key_without_room key P cause is = ⊎_elim
    (λ none. inl (overlength_is cause none.0, key_none key none.1))
    (λ there. inr (buffer_is cause there.0, key_found_with key P there.1))
    is

-- A key whose element isn't there, and one for which there is no memory, are refused as such.
pub key_without_memory : (key : Key) (P : List ℕ → Type 0) (cause : DerError)
    → ((cause.kind ≡ Overlength) × (element_of 0x30 (key_content key) ≡ None))
    ⊎ ((cause.kind ≡ DerMemory) × IsSomeAnd (element_of 0x30 (key_content key)) P)
    → HasNoEncodingOr (λ e. e ≡ Memory) key P (error_of cause)
key_without_memory key P cause is = ⊎_elim
    (λ none. inl (overlength_is cause none.0, key_none key none.1))
    (λ there. inr (memory_is cause there.0, key_found_with key P there.1))
    is

-- A call that fails with the error for a cause fails as that one does.
pub fails_with : {T : Type 0} → (result : Result T Error) (cause : DerError) (Q : T → Type 0) (P : Error → Type 0)
    → IsErrAnd result (λ e. e ≡ error_of cause) → P (error_of cause) → MatchResult result Q P
fails_with (Ok x) cause Q P same holds = absurd same
fails_with (Err e) cause Q P same holds = rw same holds
