use Rattle.der_types.proofs.DefaultLemmas.{default_empty, nothing_prepended}
use Rattle.der_types.proofs.default.DefaultedEncodePart.prepend_part.Goals as goal

pub returns-else-not-is_default : goal.returns-else-not-is_default
returns-else-not-is_default g c =
    let first = c.is_default.ensures.0 c.if-not-is_default.false in
    let empty = default_empty g.A.Tagged.tag_byte g.A.HasDefault.default_content g.A.ValueContent.content _
    c.self.inside.0 g.met.A.HasDefault.has_content first in
    rw (rw c.self.view_is at empty) (nothing_prepended _)
