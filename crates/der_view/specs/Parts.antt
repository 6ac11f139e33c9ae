-- What is in a source of an input.
use Rattle.std.specs.Prelude.{◌≡◌, ℕ, ◌≤◌, ◌==◌, ◌||◌, ◌&&◌, Bool, true, false, if◌then◌else◌}
use Rattle.std.specs.Prelude.{List, [], ◌∷◌, length, take, codes, Option, Some, None}
use Rattle.std.specs.Str.{bytes_eq}
use Rattle.der_view.specs.Almost.{ArmourView, armour_flaw, armour_of, body_flaw}
use Rattle.der_view.specs.Blocks.{BlockView, before, begins, bytes_at, has, is_in, line_at}
use Rattle.der_view.specs.Blocks.{trimmed_start}
use Rattle.der_view.specs.Encoded.{base64_bytes, hex_bytes, mended_bytes}
use Rattle.der_view.specs.Sources.{SourceView, Der, Pem, Text, Wide}
use Rattle.der_view.specs.declared.sentences.Sentence.{Sentence}
use Rattle.der_view.specs.declared.sentences.Sentence.TheVariants as sentences
use Rattle.der_view.specs.declared.text.Encoding.{Encoding}
use Rattle.der_view.specs.declared.text.Encoding.TheVariants as encodings
use Rattle.der_view.specs.declared.text.Found.{Found}
use Rattle.der_view.specs.declared.text.Found.TheVariants as founds
use Rattle.der_view.specs.declared.text.almost.Flaw.{Flaw}
use Rattle.der_view.specs.declared.text.almost.Flaw.TheVariants as flaws

-- the source's own bytes; those that were decoded, of a text with this flaw; or none, of which this
-- is said
pub data Content : Type 0 where
  Itself : Content
  Bytes : Encoding → Flaw → List ℕ → Content
  Said : Sentence → Content

-- what was found, with what was decoded at the front of the memory
abbrev pub found_with : Found → List ℕ → Content
found_with founds.Itself memory = Itself
found_with (founds.Decoded encoding flaw len) memory = Bytes encoding flaw (take len memory)
found_with (founds.Said sentence) memory = Said sentence

abbrev pub decoded_len : Found → ℕ
decoded_len (founds.Decoded encoding flaw len) = len
decoded_len found = 0

-- this is found, with what was decoded in the memory
abbrev pub IsIn : List ℕ → Found → Content → Type 0
IsIn memory found content =
    (found_with found memory ≡ content) × (decoded_len found ≤ length memory)

-- whether a text has another
abbrev pub finds : List ℕ → List ℕ → Bool
finds text other = is_in (bytes_at other) true text

-- ---- what is almost PEM or base64

-- what is in a body with this flaw, of which these bytes were decoded, or else this is said
abbrev pub mended_content : Encoding → Flaw → Sentence → Option (List ℕ) → Content
mended_content encoding flaw said (Some bytes) = Bytes encoding flaw bytes
mended_content encoding flaw said None = Said said

abbrev pub body_content : Encoding → Flaw → Sentence → List ℕ → Content
body_content encoding flaw said body =
    mended_content encoding (body_flaw body flaw) said (mended_bytes body)

abbrev pub almost_by : List ℕ → Sentence → Option ArmourView → Content
almost_by text said None = body_content encodings.Base64 flaws.Foreign said text
almost_by text said (Some armour) =
    body_content encodings.Pem (armour_flaw armour) said armour.body

unfoldable pub almost_content : List ℕ → Sentence → Content
almost_content text said = almost_by text said (armour_of text)

-- ---- a block of PEM

-- of OpenSSH's own form: its body in base64, and its bytes
unfoldable pub openssh_note : List ℕ → List ℕ → Sentence
openssh_note body bytes =
    if finds bytes (codes "ssh-ed25519") then sentences.OpensshEdwards
    else (if has body 0x0D then sentences.OpensshCarriage else sentences.Openssh)

abbrev pub pem_content : BlockView → Option (List ℕ) → Content
pem_content block None =
    body_content encodings.Pem flaws.Foreign sentences.NoBase64 block.body
pem_content block (Some bytes) =
    if bytes_eq block.label (codes "OPENSSH PRIVATE KEY")
    then Said (openssh_note block.body bytes) else Bytes encodings.Pem flaws.Nothing bytes

unfoldable pub block_content : BlockView → Bool → Content
block_content block is_read =
    if begins block.label (codes "PGP ") then Said sentences.Pgp
    else (if block.is_encrypted
    then Said
    (if is_read && bytes_eq block.label (codes "EC PRIVATE KEY") then sentences.EncryptedEcKey
    else sentences.EncryptedBlock)
    else pem_content block (base64_bytes block.body))

-- ---- a text with no block

-- what is said of a text that begins as the output of xxd and its like does
unfoldable pub dump_note : List ℕ → Option Sentence
dump_note text =
    if begins text (codes "00000000:") then Some sentences.Xxd
    else (if begins text (codes "0000000")
    || (begins text (codes "0000 ") || begins text (0x30 ∷ 0x30 ∷ 0x30 ∷ 0x30 ∷ 0x09 ∷ []))
    then Some sentences.Dump else None)

-- of a key of PuTTY with this first line
unfoldable pub putty_note : List ℕ → Sentence
putty_note line =
    if finds line (codes "ssh-ed25519") || finds line (codes "ssh-ed448")
    then sentences.PuttyEdwards else sentences.Putty

abbrev pub is_object : List ℕ → Bool
is_object [] = false
is_object (byte ∷ text) = byte == 0x7B && begins (trimmed_start text) (0x22 ∷ [])

-- whether a text begins as an object of JSON with a member does (RFC 8259 section 4)
abbrev pub is_json : List ℕ → Bool
is_json text = is_object (trimmed_start text)

-- of a text that encodes nothing, by how it begins
unfoldable pub note_of : List ℕ → Sentence
note_of text =
    if begins text (codes "PuTTY-User-Key-File-") then
    putty_note (before (line_at []) false text)
    else (if begins text (codes "ssh-")
    || (begins text (codes "ecdsa-sha2-") || begins text (codes "sk-"))
    then sentences.Ssh
    else (if is_json text then sentences.Json else sentences.Text))

-- what was decoded, if it is some bytes, or else this
abbrev pub some_or : Encoding → Option (List ℕ) → Content → Content
some_or encoding (Some (byte ∷ bytes)) other = Bytes encoding flaws.Nothing (byte ∷ bytes)
some_or encoding found other = other

unfoldable pub base64_content : List ℕ → Content
base64_content text =
    some_or encodings.Base64 (base64_bytes text) (almost_content text (note_of text))

unfoldable pub hex_content : List ℕ → Content
hex_content text = some_or encodings.Hexadecimal (hex_bytes text) (base64_content text)

abbrev pub text_by : List ℕ → Option Sentence → Content
text_by text (Some note) = Said note
text_by text None = hex_content text

unfoldable pub text_content : List ℕ → Content
text_content text = text_by text (dump_note text)

-- ---- a source

-- what is in a source
abbrev pub content_of : SourceView → Content
content_of (Der input) = Itself
content_of (Pem block is_read) = block_content block is_read
content_of (Text text) = text_content text
content_of (Wide note) = Said note
