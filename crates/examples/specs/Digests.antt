-- RFC 8017 section 9.2: a hash value with its algorithm.
use Rattle.std.specs.Prelude.{ℕ, List, Option, Some}
use Rattle.sec1.specs.Der.{join, element_of, Fault, element_fault, end_fault, no_fault}
use Rattle.pkix.specs.Records.{algorithm_content, algorithm_fault}
use Rattle.pkix.specs.declared.algorithm.AlgorithmIdentifier.{AlgorithmIdentifier}

-- the parts of a DigestInfo: the algorithm, and the bytes of the hash value
pub record Digest : Type 0 where
  pub algorithm : AlgorithmIdentifier
  pub bytes : List ℕ

-- SEQUENCE { digestAlgorithm AlgorithmIdentifier, digest OCTET STRING }
abbrev pub digest_content : Digest → Option (List ℕ)
digest_content value =
    join (element_of 0x30 (algorithm_content value.algorithm)) (element_of 0x04 (Some value.bytes))

-- the fault of bytes that should be its content
abbrev pub digest_fault : Fault
digest_fault = element_fault 0x30 algorithm_fault (element_fault 0x04 no_fault end_fault)
