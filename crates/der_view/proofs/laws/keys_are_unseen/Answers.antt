use Rattle.std.proofs.Common.{[], ◌∷◌, refl}
use Rattle.der_view.specs.Grammar.{cases, components}
use Rattle.der_view.specs.Keys.{container, container_parts, integers, key_bytes, sequence}
use Rattle.der_view.proofs.KeyLemmas.{cut_alike, input_alike, is_blind, number_shut, octets_shut, sequence_shut}
use Rattle.der_view.proofs.KeyLemmas.{three_to_eight, unseen}
use Rattle.der_view.proofs.laws.keys_are_unseen.Goals as goal

pub returns : goal.returns
unfolding cases components key_bytes
returns c = record {
  ec = λ m n version x y rest few.
      unseen [] ((0x02, version) ∷ []) 0x04 m n x y rest (octets_shut n, refl) refl ((refl, few, tt), refl);
  number = λ m n numbers x y rest are some few long.
      unseen [] (integers numbers) 0x02 m n x y rest (number_shut n long, refl)
      (three_to_eight (λ tags. is_blind [] tags 0x02) numbers refl some few) (are, refl);
  contained_ec = λ m n version algorithm inner after x y rest.
      unseen (container version algorithm after ∷ sequence ∷ []) ((0x02, inner) ∷ []) 0x04 m n x y rest
      (octets_shut, (sequence_shut, (octets_shut n, refl))) refl;
  contained_rsa = λ m n version algorithm after numbers x y rest are some few long.
      unseen (container version algorithm after ∷ sequence ∷ []) (integers numbers) 0x02 m n x y rest
      (octets_shut, (sequence_shut, (number_shut n long, refl)))
      (three_to_eight (λ tags. is_blind (container version algorithm after ∷ sequence ∷ []) tags 0x02) numbers refl
      some few) are;
  contained_number = λ m n version algorithm after x y rest are long.
      unseen (container version algorithm after ∷ []) [] 0x02 m n x y rest
      (octets_shut, (number_shut n long, refl)) refl are;
  contained_octets = λ m n version algorithm after x y rest.
      unseen (container version algorithm after ∷ []) [] 0x04 m n x y rest (octets_shut, (octets_shut n, refl)) refl;
  contained_cut = λ m n tag k version algorithm x y rest cut are differ is.
      input_alike _ m _ _ rest is (cut_alike (container_parts version algorithm) 0x04 n tag k x y are refl
      (octets_shut n, refl) cut differ) refl;
}
