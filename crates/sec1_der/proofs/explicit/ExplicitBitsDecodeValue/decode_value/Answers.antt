use Rattle.std.proofs.Common.{◌≡◌, ◌==◌, ◌∷◌, Some, List, ℕ, false, rules}
use Rattle.std.proofs.lemmas.Bool.{ne_eqb}
use Rattle.sec1_der.specs.Elements.{element_of}
use Rattle.sec1_der.proofs.ContentFaultLemmas.{whole_taken, bits_inside}
use Rattle.sec1_der.proofs.UniqueLemmas.{unique_inside}
use Rattle.sec1_der.proofs.explicit.ExplicitBitsDecodeValue.decode_value.Goals as goal

pub returns-in_err-bits : goal.returns-in_err-bits
returns-in_err-bits c = search (rules, whole_taken, c.in_err-bits.ensures.reads.kind)

pub returns-in-Some : goal.returns-in-Some
returns-in-Some c =
    let bytes = c.in-Some.ensures in
    let found = rw (bytes.0, ← bytes.1) at c.in_ok-bits.ensures.reads.found in
    search (rules, bits_inside (0 ∷ c.in-Some.bytes.now) _ found, c.in_ok-bits.ensures.reads.kind)

pub returns-in-None : goal.returns-in-None
returns-in-None c =
    let bits = c.in_ok-bits.bits in
    let found = c.in_ok-bits.ensures.reads.found in
    let some : (bits.unused == 0) ≡ false = ne_eqb bits.unused 0 c.in-None.ensures in
    let only = λ (value : List ℕ) (is : element_of 0x03 (Some (0 ∷ value)) ≡ Some c.args.reader.now.unread).
    c.in-None.ensures (cc (unique_inside 0x03 (λ (content : List ℕ). Some content) (λ a b x e f. cc (e, f))
    (bits.unused ∷ bits.bytes.now) (0 ∷ value) _ found is)) in
    search (rules, only, bits_inside (bits.unused ∷ bits.bytes.now) _ found, some, c.in_ok-bits.ensures.reads.kind)
