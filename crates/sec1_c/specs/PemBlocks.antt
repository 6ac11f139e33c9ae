-- What a block of PEM with a label encodes.
use Rattle.std.specs.Prelude.{◌≡◌, ℕ, ◌&&◌, not, false, if◌then◌else◌, List, [], ◌∷◌, length, take}
use Rattle.std.specs.Prelude.{Option, Some, None, option_and_then}
use Rattle.std.specs.Str.{bytes_eq}
use Rattle.der_view.specs.Blocks.{BlockView}
use Rattle.der_view.specs.Parts.{Content, Bytes, block_content}
use Rattle.der_view.specs.Sources.{SourceView, Pem, sources_of}
use Rattle.der_view.specs.declared.text.almost.Flaw.TheVariants as flaws
use Rattle.sec1_c.specs.Statuses.{pem_number}

-- the first block with this label among the parts of an input
abbrev pub block_with : List ℕ → List SourceView → Option BlockView
block_with label [] = None
block_with label (Pem block is_read ∷ sources) =
    if bytes_eq block.label label then Some block else block_with label sources
block_with label (source ∷ sources) = block_with label sources

-- the bytes that were decoded of a text with no flaw
abbrev pub plain_bytes : Content → Option (List ℕ)
plain_bytes (Bytes encoding flaws.Nothing bytes) = Some bytes
plain_bytes _ = None

-- what a block encodes, if it has its last line and no headers
abbrev pub whole_bytes : BlockView → Option (List ℕ)
whole_bytes block =
    if block.has_end && not block.has_headers then plain_bytes (block_content block false) else None

-- what the first block with this label in an input encodes
abbrev pub pem_bytes : List ℕ → List ℕ → Option (List ℕ)
pem_bytes label input = option_and_then whole_bytes (block_with label (sources_of input))

-- the number of its first line; 0 if there is no such block
abbrev pub line_of : Option BlockView → ℕ
line_of None = 0
line_of (Some block) = block.line

abbrev pub line_with : List ℕ → List ℕ → ℕ
line_with label input = line_of (block_with label (sources_of input))

-- These bytes are at the beginning of the room, their number is stored, and 0 is returned. If there
-- are none, the number 0 is stored, and that of no PEM is returned.
abbrev pub IsPem : Option (List ℕ) → List ℕ → ℕ → ℕ → Type 0
IsPem None room result len = (result ≡ pem_number) × (len ≡ 0)
IsPem (Some bytes) room result len =
    (result ≡ 0) × (len ≡ length bytes) × (take len room ≡ bytes)
