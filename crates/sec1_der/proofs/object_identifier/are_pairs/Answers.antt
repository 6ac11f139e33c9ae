use Rattle.std.proofs.Common.{◌≡◌, length, ap, sym, ◌∙◌, bit_or, ltb, eqb, ◌/◌, arith, w8}
use Rattle.std.specs.Simd.Lanes.{mask_l}
use Rattle.std.proofs.lemmas.Bool.Decides.{nat_tests}
use Rattle.std.proofs.lemmas.Simd.{bitmask_splat}
use Rattle.sec1_der.proofs.IdentifierLemmas.{ends_at, zeros_at, narrow_pairs, mask_of_pairs, mask_of_none}
use Rattle.sec1_der.proofs.IdentifierLemmas.{is_narrow-decides}
use Rattle.sec1_der.proofs.object_identifier.are_pairs.Goals as goal

pub returns-then-ends-eq255 : goal.returns-then-ends-eq255
returns-then-ends-eq255 c = λ none.
    let content = c.args.content.now in
    let chunk = c.in-Some.ensures.cases in
    let bytes = c.in-Some.bytes.now in
    let long = ap length chunk.same ∙ chunk.long in
    let ends = bitmask_splat w8 ltb bytes 8 0x80 long (omega arith) in
    let zeros = bitmask_splat w8 eqb bytes 8 0x80 long (omega arith) in
    let both : bit_or (mask_l (ends_at bytes)) (mask_l (ends_at bytes) / 2) ≡ 255 =
    ap (λ n. bit_or n (n / 2)) (sym ends) ∙ grind (arith, nat_tests, c.if-ends-eq255.true) in
    let empty : mask_l (zeros_at bytes) ≡ 0 = sym zeros ∙ grind (arith, nat_tests, none) in
    let narrow = narrow_pairs bytes
    (λ i l. mask_of_pairs (ends_at bytes) both i (omega arith)) (mask_of_none (zeros_at bytes) empty) in
    let arcs = (is_narrow-decides content (λ i. omega (arith, c.type_inv.content i)) (omega arith)).0
    (rw chunk.same at narrow) in
    (arcs.0, record { allowed = arcs.1; encoded = arcs.2; short = omega (arith, chunk.long) })
