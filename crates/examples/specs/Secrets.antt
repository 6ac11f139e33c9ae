-- A SEQUENCE of one's own: a secret, and what it is for.
use Rattle.sec1_der.specs.Contents.{byte_fault, identifier_fault}
use Rattle.sec1_der.specs.Faults.{Fault, element_fault, end_fault, no_fault, optional_fault}

-- the fault of bytes that should be the content of a SEQUENCE {
--   version INTEGER (0), secret OCTET STRING, purpose [0] EXPLICIT OBJECT IDENTIFIER OPTIONAL }
abbrev pub secret_fault : Fault
secret_fault =
    element_fault 0x02 (byte_fault 0)
    (element_fault 0x04 no_fault
    (optional_fault 0xA0 (element_fault 0x06 identifier_fault end_fault) end_fault))
