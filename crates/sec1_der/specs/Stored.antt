-- How the fields of an `ObjectIdentifier` hold its arcs.
use Rattle.std.specs.Prelude.{◌≡◌, ◌-◌, ◌++◌, length, take, replicate}
use Rattle.std.proofs.Common.{sym, refl}
use Rattle.sec1_der.specs.Identifiers.{arcs_of, IsIdentifier, content_of, max_identifier_length}
use Rattle.sec1_der.specs.declared.object_identifier.ObjectIdentifier.TheInside.{Inside}

-- the content, followed by zeros
pub record IsStored (o : Inside) : Type 0 where
  pub identifier : IsIdentifier (arcs_of (take o.len o.bytes)) (take o.len o.bytes)
  pub length_kept : length (take o.len o.bytes) ≡ o.len
  pub zeros : o.bytes ≡ take o.len o.bytes ++ replicate (max_identifier_length - o.len) 0

-- an identifier has one way to be held
pub stored_again : (o : Inside) → IsStored o
    → let content = content_of (arcs_of (take o.len o.bytes)) in
    let again : Inside = record {
      bytes = content ++ replicate (max_identifier_length - length content) 0;
      len = length content;
    } in
    again ≡ o
stored_again o h = rw (sym h.identifier.encoded, h.length_kept, ← h.zeros) refl
