-- What is said last: tables of words and commands.
use Rattle.std.specs.Prelude.{◌+◌, ◌-◌, ◌*◌, ◌==◌, ◌&&◌, ◌||◌, ℕ, nat_le, Bool, if◌then◌else◌}
use Rattle.std.specs.Prelude.{List, [], ◌∷◌, codes, length, map, slice_index, slice_index_or}
use denote.Enum.Declared.{tag_of}
use Rattle.der_view.specs.Sources.{begins}
use Rattle.der_view.specs.Words.{first_true, same_name}
use Rattle.der_view.specs.contracts.sentences.Advice.{the_type as advices}
use Rattle.der_view.specs.contracts.sentences.Sentence.{the_type as sentences}
use Rattle.der_view.specs.declared.grammar.name.Name.{Name}
use Rattle.der_view.specs.declared.sentences.Reading.{Reading}
use Rattle.der_view.specs.declared.sentences.Reading.TheVariants as readings
use Rattle.der_view.specs.declared.sentences.Advice.{Advice}
use Rattle.der_view.specs.declared.sentences.Sentence.{Sentence}
use Rattle.der_view.specs.declared.sentences.TheConstants.{COMMANDS, FORMS, SENTENCES}

abbrev pub Text : Type 0
Text = record { now : List ℕ }

abbrev none : Text
none = record { now = [] }

unfoldable pub sentence_row : Sentence → Text × Text × Text
sentence_row sentence = slice_index_or SENTENCES (tag_of sentences sentence) (none, none, none)

-- why a block isn't drawn; what is said; and the command that helps
abbrev pub reason_of : Sentence → List ℕ
reason_of sentence = (sentence_row sentence).0.now

abbrev pub words_of : Sentence → List ℕ
words_of sentence = (sentence_row sentence).1.now

abbrev pub command_of : Sentence → List ℕ
command_of sentence = (sentence_row sentence).2.now

-- RFC 9580 sections 4.2.2 and 5.5.2: a key of OpenPGP of version 4 has a length of two bytes
abbrev pub is_pgp_key : List ℕ → Bool
is_pgp_key bytes =
    (slice_index bytes 0 == 0x95 || slice_index bytes 0 == 0x99) && slice_index bytes 3 == 0x04
    && nat_le (slice_index bytes 1 * 256 + slice_index bytes 2) (length bytes - 3)

-- what is said of bytes that begin as a file of a known kind; nothing of others
unfoldable pub file_words : List ℕ → List ℕ
file_words bytes =
    let java = codes "This begins as a Java keystore: no DER." in
    first_true []
    ((begins bytes (0xFE ∷ 0xED ∷ 0xFE ∷ 0xED ∷ []), java)
    ∷ (begins bytes (0xCE ∷ 0xCE ∷ 0xCE ∷ 0xCE ∷ []), java)
    ∷ (begins bytes (0x1F ∷ 0x8B ∷ 0x08 ∷ []), codes "This begins as gzip (RFC 1952): no DER.")
    ∷ (begins bytes (0x1E ∷ 0xF1 ∷ 0xB5 ∷ 0xB0 ∷ []), codes "This begins as a PVK file: no DER.")
    ∷ (
      begins bytes (0x03 ∷ 0xD9 ∷ 0xA2 ∷ 0x9A ∷ []),
      codes "This begins as a KeePass file: no DER.",
    )
    ∷ (is_pgp_key bytes, codes "This begins as an OpenPGP key (RFC 9580): no DER.") ∷ [])

-- what bytes of the form with this name are, and what is said of those that are all of it
abbrev pub form_in : List (Name × List ℕ × List ℕ) → Name → List ℕ × List ℕ
form_in [] name = (codes "EC private key (RFC 5915)", codes "This is no %f.")
form_in (row ∷ rows) name =
    if same_name row.0 name then (row.1, row.2) else form_in rows name

unfoldable pub form_words : Name → List ℕ × List ℕ
form_words name = form_in (map (λ row. (row.0, row.1.now, row.2.now)) FORMS) name

unfoldable pub advice_row : Advice → Text × Text × Text
advice_row advice = slice_index_or COMMANDS (tag_of advices advice) (none, none, none)

-- the command that reads bytes as OpenSSL does, and what it does
abbrev pub advice_command : Advice → Reading → List ℕ
advice_command advice readings.Der = (advice_row advice).1.now
advice_command advice readings.Pem = (advice_row advice).2.now
advice_command advice readings.Nothing = []

abbrev pub advice_words : Advice → Reading → List ℕ
advice_words advice reading =
    if length (advice_command advice reading) == 0 then [] else (advice_row advice).0.now
