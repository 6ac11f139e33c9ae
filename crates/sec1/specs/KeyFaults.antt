-- The kind by which bytes that aren't a key's are refused.
use Rattle.sec1_der.specs.Contents.{byte_fault, identifier_fault, whole_bits_field_fault}
use Rattle.sec1_der.specs.Faults.{Fault, no_fault, end_fault, element_fault, optional_fault}

-- RFC 5915 section 3 (SEC1 v2.0 Appendix C.4): a SEQUENCE of the components of an ECPrivateKey in
-- their order, and nothing after them
unfoldable pub key_fault : Fault
key_fault =
    element_fault 0x30
    (element_fault 0x02 (byte_fault 1)
    (element_fault 0x04 no_fault
    (optional_fault 0xA0 (element_fault 0x06 identifier_fault end_fault)
    (optional_fault 0xA1 whole_bits_field_fault end_fault))))
    end_fault
