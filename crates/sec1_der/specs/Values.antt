-- What a contract sees of the values that borrow bytes.
use Rattle.std.specs.Prelude.{ℕ, List}
use Rattle.sec1_der.specs.declared.octet_string.OctetStringRef.{OctetStringRef}
use Rattle.sec1_der.specs.declared.bit_string.BitStringRef.{BitStringRef}
use Rattle.sec1_der.specs.declared.any.AnyRef.{AnyRef}

-- the bytes of an octet string
abbrev pub octets_of : OctetStringRef → List ℕ
octets_of octets = octets.bytes.now

-- the number of unused bits of a bit string
abbrev pub unused_bits_of : BitStringRef → ℕ
unused_bits_of bits = bits.unused

-- the bytes of a bit string
abbrev pub bit_bytes_of : BitStringRef → List ℕ
bit_bytes_of bits = bits.bytes.now

-- the tag of an element of any tag
abbrev pub tag_of : AnyRef → ℕ
tag_of any = any.tag

-- the content of an element of any tag
abbrev pub value_of : AnyRef → List ℕ
value_of any = any.value.now
