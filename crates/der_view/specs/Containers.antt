-- The kind by which bytes are refused as a container of a private key (RFC 5958 section 2).
use Rattle.std.specs.Prelude.{Bool, ℕ, List, if◌then◌else◌}
use Rattle.std.specs.Prelude.{is_none}
use Rattle.pkix.specs.Records.{asymmetric_key_fault, private_key_fault}
use Rattle.sec1_der.specs.Contents.{byte_fault}
use Rattle.sec1_der.specs.Faults.{Fault, element_fault, no_fault}

-- whether the content begins with the INTEGER 1
abbrev pub has_version_one : List ℕ → Bool
has_version_one content = is_none (element_fault 0x02 (byte_fault 1) no_fault content)

-- RFC 5958 section 2: the kind by which a content is refused as that of a container. Only one of
-- version 1 may have a public key. A content with neither version is refused as one of version 0.
abbrev pub container_fault : Fault
container_fault content =
    if has_version_one content then asymmetric_key_fault content else private_key_fault content
