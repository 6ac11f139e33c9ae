-- The picture of an input: those of its sources, one after the other.
use Rattle.std.specs.Prelude.{◌≡◌, ℕ, ◌+◌, ◌↔◌, ◌||◌, Bool, true, false, IsTrue, List, [], ◌∷◌}
use Rattle.std.specs.Prelude.{◌++◌, codes, length, take, Option, Some, None, is_none, option_map}
use Rattle.std.specs.Prelude.{if◌then◌else◌}
use Rattle.std.specs.Fmt.{decimal}
use Rattle.std.specs.List.{flat_map, fold}
use Rattle.sec1.specs.KeyFaults.{key_fault}
use Rattle.sec1.specs.Keys.{Key, IsKeyOf}
use Rattle.der_view.specs.Almost.{ArmourView, armour_of, flaw_words}
use Rattle.der_view.specs.Known.{nothing_known, with_next}
use Rattle.der_view.specs.Lines.{kept}
use Rattle.der_view.specs.Marks.{bytes_text as count_text}
use Rattle.der_view.specs.Parts.{Content, Itself, Bytes, Said, content_of, decoded_len}
use Rattle.der_view.specs.Pictures.{plan_of, rows_by}
use Rattle.der_view.specs.Printing.{Told, as_shown, line_of, lines_text, told_line, told_of}
use Rattle.der_view.specs.Said.{note_lines, said_lines}
use Rattle.der_view.specs.Sentences.{file_words, reason_of}
use Rattle.der_view.specs.Sources.{SourceView, Der, Pem, Text, sources_of}
use Rattle.der_view.specs.declared.known.Known.{Known}
use Rattle.der_view.specs.declared.output.PictureLine.{PictureLine}
use Rattle.der_view.specs.declared.output.TheConstants.{HEADING}
use Rattle.der_view.specs.declared.plan.Plan.{Plan}
use Rattle.der_view.specs.declared.sentences.Reading.{Reading}
use Rattle.der_view.specs.declared.sentences.Reading.TheVariants as readings
use Rattle.der_view.specs.declared.text.Encoding.{Encoding}
use Rattle.der_view.specs.declared.text.Encoding.TheVariants as encodings
use Rattle.der_view.specs.declared.text.Found.{Found}
use Rattle.der_view.specs.declared.text.Found.TheVariants as founds
use Rattle.der_view.specs.declared.text.almost.Flaw.{Flaw}
use Rattle.der_view.specs.declared.text.almost.Flaw.TheVariants as flaws

-- ---- bytes

-- whether bytes are those of a key (RFC 5915 section 3)
unfoldable pub is_key_of : List ℕ → Bool
is_key_of bytes = is_none (key_fault bytes)

abbrev pub IsKey : List ℕ → Bool → Type 0
IsKey bytes is_key = IsTrue is_key ↔ ((key : Key) × IsKeyOf key bytes)

-- what is known of bytes by their rows
unfoldable pub known_of : Plan → List ℕ → Known
known_of plan bytes = fold with_next (nothing_known plan) (rows_by plan false bytes)

-- the picture of bytes: their rows, and what is said of them
unfoldable pub bytes_lines : Bool → Reading → List ℕ → List Told
bytes_lines all reading bytes =
    as_shown (told_of (plan_of bytes) all (rows_by (plan_of bytes) all bytes))
    ++ said_lines (is_key_of bytes) reading (file_words bytes) (known_of (plan_of bytes) bytes)

-- ---- the line above

-- what it says is in a source
abbrev pub found_text : Found → List ℕ
found_text founds.Itself = []
found_text (founds.Decoded encoding flaw len) = count_text len ++ flaw_words flaw
found_text (founds.Said note) = reason_of note

abbrev pub end_text : Bool → List ℕ
end_text has_end = if has_end then [] else codes ", with no line END"

-- of a block with this label, in this line
abbrev pub pem_heading : ℕ → List ℕ → Found → Bool → List ℕ
pem_heading line label found has_end =
    codes "PEM at line "
    ++ (decimal line
    ++ (codes ", " ++ (label ++ (codes ": " ++ (found_text found ++ end_text has_end)))))

abbrev pub armour_heading : Found → ArmourView → List ℕ
armour_heading found armour = pem_heading armour.line armour.label found armour.has_end

-- of a text with no block, of which bytes were decoded
abbrev pub text_heading : List ℕ → Encoding → Found → Option (List ℕ)
text_heading text encodings.Pem found = option_map (armour_heading found) (armour_of text)
text_heading text encodings.Hexadecimal found = Some (codes "hexadecimal: " ++ found_text found)
text_heading text encodings.Base64 found = Some (codes "base64: " ++ found_text found)

abbrev pub heading_of : SourceView → Found → Option (List ℕ)
heading_of (Pem block is_read) found = Some (pem_heading block.line block.label found block.has_end)
heading_of (Text text) (founds.Decoded encoding flaw len) =
    text_heading text encoding (founds.Decoded encoding flaw len)
heading_of source found = None

-- the line of a heading, if there is one
abbrev pub heading_by : PictureLine → Option (List ℕ) → List Told
heading_by of None = []
heading_by of (Some heading) = told_line of (kept heading)

-- that of a source, of which what was decoded is after so many bytes
abbrev pub heading_lines : ℕ → SourceView → Found → List Told
heading_lines before source found =
    heading_by (record (line_of HEADING) { offset = before; content_len = decoded_len found })
    (heading_of source found)

-- ---- a source

-- how OpenSSL reads the bytes in a source, of whose text this is wrong
abbrev pub reading_of : SourceView → Flaw → Reading
reading_of (Der input) flaw = readings.Der
reading_of (Pem block true) flaws.Nothing = readings.Pem
reading_of _ _ = readings.Nothing

-- what is found of a content
abbrev pub found_of : Content → Found
found_of Itself = founds.Itself
found_of (Bytes encoding flaw bytes) = founds.Decoded encoding flaw (length bytes)
found_of (Said note) = founds.Said note

-- the picture of a content of a source
abbrev pub drawn_lines : Bool → SourceView → Content → List Told
drawn_lines all source (Bytes encoding flaw bytes) =
    bytes_lines all (reading_of source flaw) bytes
drawn_lines all source (Said note) = note_lines note
drawn_lines all (Der input) Itself = bytes_lines all readings.Der input
drawn_lines all source Itself = []

abbrev pub source_lines : Bool → ℕ → SourceView → List Told
source_lines all before source =
    heading_lines before source (found_of (content_of source))
    ++ drawn_lines all source (content_of source)

-- whether it is a key's
abbrev pub content_key : SourceView → Content → Bool
content_key source (Bytes encoding flaw bytes) = is_key_of bytes
content_key (Der input) Itself = is_key_of input
content_key source content = false

abbrev pub source_key : SourceView → Bool
source_key source = content_key source (content_of source)

-- ---- an input

-- the bytes that are decoded of a source
abbrev pub decoded_in : Content → List ℕ
decoded_in (Bytes encoding flaw bytes) = bytes
decoded_in content = []

abbrev pub decoded_of : SourceView → List ℕ
decoded_of source = decoded_in (content_of source)

-- those of the sources of an input are in memory, one source's bytes after the other's
abbrev pub IsDecoded : List ℕ → List ℕ → Type 0
IsDecoded input memory =
    let bytes = flat_map decoded_of (sources_of input) in take (length bytes) memory ≡ bytes

-- the pictures of sources, where so many bytes were decoded before
abbrev pub sources_lines : Bool → ℕ → List SourceView → List Told
sources_lines all before [] = []
sources_lines all before (source ∷ sources) =
    source_lines all before source
    ++ sources_lines all (before + length (decoded_of source)) sources

abbrev pub some_key : List SourceView → Bool
some_key [] = false
some_key (source ∷ sources) = source_key source || some_key sources

-- the picture of an input
unfoldable pub picture_lines : Bool → List ℕ → List Told
picture_lines all input = sources_lines all 0 (sources_of input)

-- its text
abbrev pub picture_text : Bool → List ℕ → List ℕ
picture_text all input = lines_text (picture_lines all input)

-- whether some part of it is a key
unfoldable pub has_key : List ℕ → Bool
has_key input = some_key (sources_of input)
