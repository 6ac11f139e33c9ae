use Rattle.std.proofs.Common.{◌≡◌, ◌+◌, ◌≤◌, ℕ, List, ◌++◌, length, drop, arith, append_assoc, length-append}
use Rattle.std.proofs.lemmas.List.{drop-drop}
use Rattle.sec1_der.specs.Elements.{header}
use Rattle.sec1_c.specs.Outputs.{Writes}
use Rattle.sec1_c.proofs.element.write_element.Goals as goal

-- two rows of bytes are written, one after the other
both_written : (front content buffer rest : List ℕ) → length front + length content ≤ length buffer
    → rest ≡ drop (length front) buffer
    → Writes (front ++ content) buffer (front ++ (content ++ drop (length content) rest)) 0
    (length front + length content)
both_written front content buffer rest room is = grind (arith, append_assoc, length-append, drop-drop)

pub returns : goal.returns
returns c =
    let octets = header c.args.header.now.tag c.args.header.now.length in
    let whole = both_written octets c.args.content.now c.args.out.now c.split_at_mut-front.result.1.now (grind arith)
    (grind arith) in grind (arith, whole)
