-- RFC 5652 section 3: the outermost structure of a message of CMS.
use Rattle.std.specs.Prelude.{ℕ, List, Option}
use Rattle.sec1_der.specs.Elements.{element_of}
use Rattle.sec1_der.specs.Identifiers.{identifier_content}
use Rattle.sec1_der.specs.Parts.{join}
use Rattle.der_types.specs.AnyElements.{any_of}
use Rattle.examples.specs.declared.callers.content_info.ContentInfo.{ContentInfo}

-- ContentInfo ::= SEQUENCE {
--   contentType OBJECT IDENTIFIER, content [0] EXPLICIT ANY DEFINED BY contentType }
abbrev pub content_info_content : ContentInfo → Option (List ℕ)
content_info_content info =
    join (element_of 0x06 (identifier_content info.content_type))
    (element_of 0xA0 (any_of info.content.element))
