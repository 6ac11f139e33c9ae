-- Keys that are read, and bytes that are refused as a key's.
use Rattle.std.proofs.Common.{◌≡◌, ◌++◌, ℕ, List, [], Ok, Err, Some, None, refl, sym, ap, ◌∙◌}
use Rattle.sec1_der.proofs.ElementLaws.{element_of-inside, element_of-some}
use Rattle.sec1_der.specs.Elements.{IsProperPrefix}
use Rattle.sec1_der.specs.Errors.{IsReadingFault}
use Rattle.sec1_der.specs.Trees.{Tree, IsTree, bytes as tree_bytes}
use Rattle.sec1_der.specs.declared.error.Error.{Error as DerError}
use Rattle.sec1_der.specs.declared.error.ErrorKind.{ErrorKind}
use Rattle.sec1_der.specs.declared.error.ErrorKind.TheVariants.{Memory as DerMemory, TrailingData}
use Rattle.sec1.specs.Der.{element_of}
use Rattle.sec1.specs.Errors.{error_of}
use Rattle.sec1.specs.KeyFaults.{key_fault}
use Rattle.sec1.specs.Keys.{Key, IsKeyOf, key_tree}
use Rattle.sec1.specs.ReadsKey.{ReadsKey}
use Rattle.sec1.specs.declared.error.Error.TheVariants.{Asn1}
use Rattle.sec1.proofs.KeyLemmas.{CutElements, key_content, key_cut, key_found, key_written}

-- A tree is determined by the bytes that begin with it: the law `trees_unique` says it.
abbrev TreesUnique : Type 0
TreesUnique = (t u : Tree) (r s : List ℕ) → IsTree t → IsTree u → tree_bytes t ++ r ≡ tree_bytes u ++ s
    → (t ≡ u) × (r ≡ s)

-- A key is determined by its content: the law `content_injective` says it.
abbrev KeysUnique : Type 0
KeysUnique = (a b : Key) (bytes : List ℕ) → key_content a ≡ Some bytes → key_content b ≡ Some bytes → a ≡ b

-- A fault of reading stays an error of DER.
asn1 : (kind : ErrorKind) (cause : DerError) → cause.kind ≡ kind → IsReadingFault kind
    → error_of cause ≡ Asn1 cause
asn1 DerMemory cause is fault = absurd fault
asn1 kind cause is fault = rw is refl

-- Bytes that aren't a key's are refused by the kind of their fault.
pub key_refused : CutElements → (input : List ℕ) (cause : DerError) → IsReadingFault cause.kind
    → key_fault input ≡ Some (Some cause.kind) → ((key : Key) → ¬ IsKeyOf key input)
    → ((key : Key) (bytes : List ℕ) → IsKeyOf key bytes → IsProperPrefix bytes input → cause.kind ≡ TrailingData)
    → ReadsKey input (Err (error_of cause))
key_refused element_cut input cause fault kind none long =
    rw (asn1 cause.kind cause refl fault) (record {
      found = tt;
      only = λ key is. absurd (none key is);
      one_tree = tt;
      kinds = fault;
      kind = kind;
      short = λ key bytes is begins. cc (kind, key_cut element_cut key bytes input is begins);
      long = long;
    })

-- The key whose element the bytes are is read, and none other has these bytes.
pub key_read : CutElements → TreesUnique → KeysUnique → (input : List ℕ) (key : Key)
    → element_of 0x30 (key_content key) ≡ Some input → key_fault input ≡ None
    → ((other : Key) (bytes : List ℕ) → IsKeyOf other bytes → ¬ IsProperPrefix bytes input)
    → ReadsKey input (Ok key)
key_read element_cut trees_unique keys_unique input key is kind none_within =
    let found = key_found key input is in
    record {
      found = found;
      only = λ other at.
          let here = element_of-some 0x30 (key_content key) input is in
          let there = key_written other input at ∙ ap Some here.at.encoded in
          let same = element_of-inside 0x30 (key_content other) here.inside there in
          ap Ok (keys_unique key other here.inside here.same same);
      one_tree = λ t at.
          (trees_unique t (key_tree key) [] [] at.tree found.tree.tree
          (ap (λ xs. xs ++ []) (sym at.whole ∙ found.tree.whole))).0;
      kinds = tt;
      kind = kind;
      short = λ other bytes at begins. absurd (cc (kind, key_cut element_cut other bytes input at begins));
      long = λ other bytes at begins. absurd (none_within other bytes at begins);
    }
