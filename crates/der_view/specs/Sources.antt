-- What an input is: DER, or a text that encodes some.
use Rattle.std.specs.Prelude.{ℕ, ◌+◌, ◌==◌, ◌&&◌, ◌||◌, not, nat_le, Bool, true, false}
use Rattle.std.specs.Prelude.{if◌then◌else◌, List, [], ◌∷◌, length, take, drop, Option, Some, None}
use Rattle.std.specs.Prelude.{option_map}
use Rattle.std.specs.List.{list_all}
use Rattle.std.specs.Str.{bytes_eq, is_utf8}
pub use Rattle.der_view.specs.Blocks.{begins}
use Rattle.der_view.specs.Blocks.{BlockView, begin_at, block_view, blocks_in, has, is_in}
use Rattle.der_view.specs.Blocks.{is_key_of_openssl, is_of_private_key}
use Rattle.der_view.specs.Pictures.{plan_of}
use Rattle.der_view.specs.declared.sentences.Sentence.{Sentence}
use Rattle.der_view.specs.declared.sentences.Sentence.TheVariants as sentences
use Rattle.der_view.specs.declared.text.Source.{Source}
use Rattle.der_view.specs.declared.text.Source.TheVariants as sources

-- a part of an input: the input, which is no text or one whole element; a block of PEM, of which
-- OpenSSL reads the key or not; the input, a text with no block; the input, of which this is said
pub data SourceView : Type 0 where
  Der : List ℕ → SourceView
  Pem : BlockView → Bool → SourceView
  Text : List ℕ → SourceView
  Wide : Sentence → SourceView

abbrev pub source_view : Source → SourceView
source_view (sources.Der input) = Der input.now
source_view (sources.Pem block is_read) = Pem (block_view block) is_read
source_view (sources.Text text) = Text text.now
source_view (sources.Wide note) = Wide note

-- no control character but the tab, the line feed and the carriage return
abbrev pub is_text_byte : ℕ → Bool
is_text_byte byte = nat_le 0x20 byte || (byte == 0x09 || (byte == 0x0A || byte == 0x0D))

-- whether an input is a text: some bytes, which are such, and UTF-8
unfoldable pub is_text : List ℕ → Bool
is_text input = not (length input == 0) && (list_all is_text_byte input && is_utf8 input)

-- whether `-----BEGIN ` is in a text
unfoldable pub has_begin : List ℕ → Bool
has_begin text = is_in begin_at true text

-- the length of an input that is a text, or that `-----BEGIN ` is in; 0 of any other
abbrev pub text_len : List ℕ → ℕ
text_len input = if is_text input || has_begin input then length input else 0

-- whether an input is DER: all of a form of the table, or one whole element and no text
unfoldable pub is_der : List ℕ → Bool
is_der input = (plan_of input).is_whole || ((plan_of input).is_tree && not (is_text input))

-- whether a raw private key may have so many bytes
abbrev pub is_raw_len : ℕ → Bool
is_raw_len len = len == 28 || (len == 32 || (len == 48 || len == 66))

-- what is said of an input that begins as a text of two or four bytes a character does: with the
-- byte order mark of UTF-32 or UTF-16, or with two dashes in UTF-16
unfoldable pub wide_note : List ℕ → Option Sentence
wide_note input =
    if is_raw_len (length input) then None
    else (if begins input (0xFF ∷ 0xFE ∷ 0 ∷ 0 ∷ []) || begins input (0 ∷ 0 ∷ 0xFE ∷ 0xFF ∷ [])
    then Some sentences.Utf32
    else (if begins input (0xFF ∷ 0xFE ∷ []) || begins input (0xFE ∷ 0xFF ∷ [])
    then Some sentences.Utf16
    else (if begins input (0x2D ∷ 0 ∷ 0x2D ∷ 0 ∷ []) || begins input (0 ∷ 0x2D ∷ 0 ∷ 0x2D ∷ [])
    then Some sentences.Utf16 else None)))

-- the blocks, of which OpenSSL reads the key of the first one with a label of private keys, if it
-- reads keys of this text
abbrev pub pem_sources : Bool → List BlockView → List SourceView
pem_sources reads [] = []
pem_sources reads (block ∷ blocks) =
    Pem block (reads && is_key_of_openssl block)
    ∷ pem_sources (reads && not (is_of_private_key block)) blocks

abbrev pub or_source : Option SourceView → List SourceView → List SourceView
or_source None sources = sources
or_source (Some other) [] = other ∷ []
or_source (Some other) (source ∷ sources) = source ∷ sources

-- the blocks of PEM of an input, or else this source. OpenSSL reads no lines that end in a carriage
-- return alone.
abbrev pub blocks_or : SourceView → List ℕ → List SourceView
blocks_or other input =
    or_source (Some other)
    (pem_sources (has input 0x0A) (blocks_in true 0 input))

-- a text without the byte order mark of UTF-8 (RFC 3629 section 6)
abbrev pub without_mark : List ℕ → List ℕ
without_mark text = if bytes_eq (take 3 text) (0xEF ∷ 0xBB ∷ 0xBF ∷ []) then drop 3 text else text

abbrev pub sources_by : Bool → Bool → Bool → Option Sentence → List ℕ → List SourceView
sources_by true is_text begins wide input = Der input ∷ []
sources_by false true begins wide input =
    blocks_or (Text (without_mark input)) (without_mark input)
sources_by false false begins (Some note) input = Wide note ∷ []
sources_by false false true None input = blocks_or (Der input) input
sources_by false false false None input = Der input ∷ []

-- the sources of an input, in order
unfoldable pub sources_of : List ℕ → List SourceView
sources_of input =
    sources_by (is_der input) (is_text input) (has_begin input) (wide_note input) input

-- the number of bytes of text that are decoded of a source
abbrev pub source_len : SourceView → ℕ
source_len (Der input) = 0
source_len (Pem block is_read) = length block.body
source_len (Text text) = length text
source_len (Wide note) = 0

-- the memory for what these encode, two bytes more for each
abbrev pub total_len : List SourceView → ℕ
total_len [] = 0
total_len (source ∷ sources) = source_len source + 2 + total_len sources

-- the blocks in a text after so many lines, or else a source that isn't read yet
abbrev pub sources_left : Option Source → Bool → Bool → ℕ → List ℕ → List SourceView
sources_left other reads starts number text =
    or_source (option_map source_view other) (pem_sources reads (blocks_in starts number text))
