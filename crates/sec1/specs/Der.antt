-- The definitions of `sec1_der` that contracts use, for a crate that depends on `sec1` alone.
pub use Rattle.sec1_der.specs.Writers.{back_state, HasRoom, Prepends, HasPrepended}
pub use Rattle.sec1_der.specs.Writers.{Measures}
pub use Rattle.sec1_der.specs.Parts.{join, optional_of}
pub use Rattle.sec1_der.specs.Contents.{are_bits}
pub use Rattle.sec1_der.specs.Contents.{byte_fault, identifier_fault, bit_string_fault}
pub use Rattle.sec1_der.specs.Contents.{whole_bits_fault, whole_bits_field_fault}
pub use Rattle.sec1_der.specs.Contents.{value_unless}
pub use Rattle.sec1_der.specs.Elements.{max_length, is_tag, length_octets, header}
pub use Rattle.sec1_der.specs.Elements.{IsHeader, element, IsElement}
pub use Rattle.sec1_der.specs.Elements.{IsProperPrefix, within_limit, element_of}
pub use Rattle.sec1_der.specs.Errors.{Refuses, IsReadingFault, IsHeaderFault}
pub use Rattle.sec1_der.specs.Errors.{header_fault}
pub use Rattle.sec1_der.specs.Identifiers.{IsIdentifier, are_arcs, content_of}
pub use Rattle.sec1_der.specs.Identifiers.{identifier_content, dotted}
pub use Rattle.sec1_der.specs.Elements.{number_of}
pub use Rattle.sec1_der.specs.Readers.{Reader, reader_over, failed_reader, HasRead, HasReadElement}
pub use Rattle.sec1_der.specs.Faults.{Fault, HasFault, IsFaultOf, SaysKinds, no_fault, end_fault}
pub use Rattle.sec1_der.specs.Faults.{element_fault}
pub use Rattle.sec1_der.specs.Faults.{optional_fault, any_fault, document_fault}
pub use Rattle.sec1_der.specs.Faults.{tree_fault}
pub use Rattle.sec1_der.specs.Streams.{RefusesElement}
pub use Rattle.sec1_der.specs.Streams.{TakenBeforeRefusal}
pub use Rattle.sec1_der.specs.Writers.{slice_state, Appends}
pub use Rattle.sec1_der.specs.Streams.{AppendsPrefix, Ends, Takes}
pub use Rattle.sec1_der.specs.Trees.{Tree, Forest, leaf, branch, forest, bytes, IsTree, IsTreeOf}
pub use Rattle.sec1_der.specs.Trees.{depth, size, max_tree_depth}
pub use Rattle.sec1_der.specs.Values.{octets_of, unused_bits_of, bit_bytes_of, tag_of, value_of}
pub use Rattle.sec1_der.specs.Writers.{Writer, Writes}
