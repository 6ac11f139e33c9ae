-- What is said of bytes, by what is known of them.
use Rattle.std.specs.Prelude.{ℕ, ◌-◌, ◌*◌, ◌==◌, ◌&&◌, ◌||◌, not, nat_lt, Bool, true, false}
use Rattle.std.specs.Prelude.{if◌then◌else◌, List, [], ◌∷◌, ◌++◌, length, codes, find, flat_map}
use Rattle.std.specs.Prelude.{Option, Some, None, is_none, is_some, unwrap_or, slice_index}
use Rattle.std.specs.Fmt.{decimal}
use Rattle.std.specs.Str.{bytes_eq}
use Rattle.curves.specs.Curves.{curve_content, field_len}
use Rattle.curves.specs.declared.curve.Curve.{Curve}
use Rattle.curves.specs.declared.curve.Curve.TheVariants as curves
use Rattle.curves.specs.declared.curve.TheConstants.Curve.{ALL}
use Rattle.sec1_der.specs.Identifiers.{dotted}
use Rattle.der_view.specs.Known.{form_name}
use Rattle.der_view.specs.Lines.{kept}
use Rattle.der_view.specs.Marks.{bytes_text}
use Rattle.der_view.specs.Names.{name_by}
use Rattle.der_view.specs.Printing.{Told, line_of, told_line}
use Rattle.der_view.specs.Sentences.{advice_command, advice_words, command_of, form_words, words_of}
use Rattle.der_view.specs.Sources.{begins, is_raw_len}
use Rattle.der_view.specs.Arcs.{arcs_by}
use Rattle.der_view.specs.Words.{first_true, same_name}
use Rattle.der_view.specs.declared.grammar.name.Name.{Name}
use Rattle.der_view.specs.declared.grammar.name.Name.TheVariants as names
use Rattle.der_view.specs.declared.known.Known.{Known}
use Rattle.der_view.specs.declared.plan.Plan.{Plan}
use Rattle.der_view.specs.declared.sentences.Reading.{Reading}
use Rattle.der_view.specs.declared.sentences.Reading.TheVariants as readings
use Rattle.der_view.specs.declared.output.TheConstants.{COMMAND, WORDS}
use Rattle.der_view.specs.declared.said.TheConstants.{EC_PUBLIC_KEY, SHA1}
use Rattle.der_view.specs.declared.sentences.Advice.{Advice}
use Rattle.der_view.specs.declared.sentences.Advice.TheVariants as advices
use Rattle.der_view.specs.declared.sentences.Sentence.{Sentence}

-- the form of bytes is that with this name
abbrev pub is_form : Known → Name → Bool
is_form known name = same_name (form_name known.plan.form) name

-- RFC 5480 section 2.1.1
abbrev pub is_ec : Known → Bool
is_ec known = bytes_eq known.algorithm EC_PUBLIC_KEY

-- the curve with this content
unfoldable pub curve_by : List ℕ → Option Curve
curve_by content = find (λ curve. bytes_eq (curve_content curve) content) ALL

-- ---- what doesn't fit the curve

-- the length of a private key: that of the order, which has a bit more than the field on four
-- curves (SEC 2 version 1.0 sections 2.4 and version 2.0 section 2.3.1)
abbrev pub order_len : Curve → ℕ
order_len curves.Secp160k1 = 21
order_len curves.Secp160r1 = 21
order_len curves.Secp160r2 = 21
order_len curves.Secp224k1 = 29
order_len curve = field_len curve

abbrev pub is_plain_form : ℕ → Bool
is_plain_form form = form == 0x02 || form == 0x03 || form == 0x04 || form == 0x06 || form == 0x07

-- SEC1 v2.0 section 2.3.3: the coordinates of a point with this form
abbrev pub point_len : Curve → ℕ → ℕ
point_len curve form =
    if form == 0x02 || form == 0x03 then field_len curve else 2 * field_len curve

abbrev pub key_lens_by : Option Curve → Option ℕ → ℕ × ℕ
key_lens_by (Some curve) (Some len) = (len, order_len curve)
key_lens_by _ _ = (0, 0)

abbrev pub point_lens_by : Option Curve → Option (ℕ × ℕ × ℕ) → ℕ × ℕ
point_lens_by (Some curve) (Some point) =
    if is_plain_form point.2 then (point.0 - 2, point_len curve point.2) else (0, 0)
point_lens_by _ _ = (0, 0)

-- the length of a private key and of the coordinates of a point, and the length that the curve has
unfoldable pub key_lens : Known → ℕ × ℕ
key_lens known = key_lens_by (curve_by known.curve) known.key_len

unfoldable pub point_lens : Known → ℕ × ℕ
point_lens known = point_lens_by (curve_by known.curve) known.point

-- ---- what they are

abbrev pub empty_words : Reading → List ℕ
empty_words readings.Der = codes "The input is empty."
empty_words _ = codes "The block is empty."

-- what bytes of no form are
unfoldable pub none_words : Reading → List ℕ → Plan → List ℕ
none_words reading file plan =
    first_true []
    ((plan.len == 0, empty_words reading)
    ∷ (plan.is_tree, codes "This is no EC private key (RFC 5915).")
    ∷ (is_raw_len plan.len, codes "These are %l bytes, as of a raw private key: no DER.")
    ∷ (not (length file == 0), file)
    ∷ (plan.len == 1, codes "This is 1 byte: no DER.")
    ∷ (true, codes "These are %l bytes: no DER.") ∷ [])

-- what bytes are that are all of a form
unfoldable pub whole_words : Known → List ℕ
whole_words known =
    let is_identifier = is_form known names.NamedCurve && is_some (name_by known.curve) in
    first_true []
    ((
      is_identifier && is_some (curve_by known.curve),
      codes "This names the curve %n: it has no private key.",
    )
    ∷ (is_identifier, codes "This names %n: it has no private key.")
    ∷ (
      is_form known names.PrivateKeyInfo && not (is_ec known),
      codes "This is PKCS #8 (RFC 5958) with another key%a. It has no EC key.",
    )
    ∷ (true, (form_words (form_name known.plan.form)).1) ∷ [])

-- what bytes are that aren't all of their form
unfoldable pub begun_words : Known → List ℕ
begun_words known =
    let plan = known.plan in
    first_true []
    ((plan.is_whole && not (unwrap_or known.version 1 == 1), codes "%b%f: its version is %v.")
    ∷ (plan.is_cut && is_some known.root_len, codes "%b%f: %l of %r bytes are there.")
    ∷ (not plan.is_cut && is_some known.marked, codes "%b%f: see offset %m.")
    ∷ (true, codes "%b%f.") ∷ [])

-- what bytes are, which are a key's or not
unfoldable pub first_words : Bool → Reading → List ℕ → Known → List ℕ
first_words is_key reading file known =
    first_true []
    ((is_key && known.has_curve, codes "This is an EC private key (RFC 5915)%c.")
    ∷ (is_key, codes "This is an EC private key (RFC 5915), with no curve named.")
    ∷ (is_none known.plan.form, none_words reading file known.plan)
    ∷ (known.plan.is_whole && not (is_form known names.EcPrivateKey), whole_words known)
    ∷ (true, begun_words known) ∷ [])

-- the name of an identifier, its dotted text, or neither, each after a text of its own
abbrev pub identifier_text : List ℕ → List ℕ → List ℕ → Option (List ℕ) → Option (List ℕ) → List ℕ
identifier_text named numbered other (Some name) arcs = named ++ name
identifier_text named numbered other None (Some arcs) = numbered ++ dotted arcs
identifier_text named numbered other None None = other

-- what a letter stands for, a, b, c, n, f, k, p, l, m, o, q, r or v; or a character but `%` itself
abbrev pub piece_text : Known → Bool → ℕ → List ℕ
piece_text known is_letter byte =
    let identifier = λ (named numbered other content : List ℕ).
    identifier_text named numbered other (name_by content) (arcs_by content) in
    first_true (decimal (unwrap_or known.version 0))
    ((not is_letter && byte == 0x25, [])
    ∷ (not is_letter, byte ∷ [])
    ∷ (byte == 0x61, identifier (codes ": ") (codes ": ") [] known.algorithm)
    ∷ (byte == 0x62 && is_form known names.EcPrivateKey, codes "This is no ")
    ∷ (byte == 0x62, codes "This begins as ")
    ∷ (
      byte == 0x63,
      identifier (codes " on ") (codes " on the curve ")
          (codes " on another curve") known.curve,
    )
    ∷ (byte == 0x6E, identifier [] [] [] known.curve)
    ∷ (byte == 0x66, (form_words (form_name known.plan.form)).0)
    ∷ (byte == 0x6B, bytes_text (key_lens known).0)
    ∷ (byte == 0x70, bytes_text (point_lens known).0)
    ∷ (byte == 0x6C, decimal known.plan.len)
    ∷ (byte == 0x6D, decimal (unwrap_or known.marked 0))
    ∷ (byte == 0x6F, decimal (key_lens known).1)
    ∷ (byte == 0x71, decimal (point_lens known).1)
    ∷ (byte == 0x72, decimal (unwrap_or known.root_len 0)) ∷ [])

-- the rest of a sentence, in which `%` and a letter stand for what is known: it begins with such a
-- letter or not
abbrev pub sentence_text : Known → Bool → List ℕ → List ℕ
sentence_text known is_letter [] = []
sentence_text known is_letter (byte ∷ rest) =
    piece_text known is_letter byte
    ++ sentence_text known (not is_letter && byte == 0x25) rest

-- ---- the command

-- whether the lengths and the point fit the curve, as far as that is known
abbrev pub is_fit : Known → Bool
is_fit known =
    let point = unwrap_or known.point (0, 0, 0x04) in
    (key_lens known).0 == (key_lens known).1 && (point_lens known).0 == (point_lens known).1
    && point.1 == 0 && is_plain_form point.2

-- whether OpenSSL makes a key of bytes of their form
abbrev pub is_repaired : Known → Bool
is_repaired known =
    (is_form known names.EcPrivateKey && unwrap_or known.version 0 == 1)
    || (is_form known names.PrivateKeyInfo && is_ec known && not known.has_public
    && (known.has_inner || known.is_explicit))

-- 1.2.840.113549.1.5.1 to 12 and 1.2.840.113549.1.12.1.1, 2, 5 and 6: encryption as before 2000
abbrev pub is_legacy : List ℕ → Bool
is_legacy content =
    (begins content (0x2A ∷ 0x86 ∷ 0x48 ∷ 0x86 ∷ 0xF7 ∷ 0x0D ∷ 0x01 ∷ 0x05 ∷ [])
    && nat_lt (slice_index content 8) 0x0D)
    || (begins content (0x2A ∷ 0x86 ∷ 0x48 ∷ 0x86 ∷ 0xF7 ∷ 0x0D ∷ 0x01 ∷ 0x0C ∷ 0x01 ∷ [])
    && not (slice_index content 9 == 3 || slice_index content 9 == 4))

-- the command that helps with bytes, which are a key's or not
unfoldable pub advice_of : Bool → Known → Advice
advice_of is_key known =
    let is_named = is_some (name_by known.curve) in
    first_true advices.Nothing
    ((known.is_damaged || not (is_fit known), advices.Nothing)
    ∷ (is_key && is_named, advices.Pem)
    ∷ (is_key, advices.Nothing)
    ∷ (is_form known names.EncryptedPrivateKeyInfo && is_legacy known.algorithm, advices.Legacy)
    ∷ (is_form known names.EncryptedPrivateKeyInfo, advices.Encrypted)
    ∷ (is_form known names.Pfx && bytes_eq known.algorithm SHA1, advices.LegacyPkcs12)
    ∷ (is_form known names.Pfx, advices.Pkcs12)
    ∷ (is_repaired known && known.is_explicit, advices.Named)
    ∷ (is_repaired known && is_named, advices.Der) ∷ [])

-- ---- all of it

abbrev pub misfit_words : ℕ × ℕ → List ℕ → List ℕ
misfit_words lens sentence = if lens.0 == lens.1 then [] else sentence

-- what is said of bytes, which are a key's or not, a sentence a line: what they are, that a private
-- key or a point doesn't fit, what a command does, and the command
unfoldable pub said_of : Bool → Reading → List ℕ → Known → List (List ℕ)
said_of is_key reading file known =
    first_words is_key reading file known
    ∷ misfit_words (key_lens known) (codes "Its private key has %k, where %n has %o.")
    ∷ misfit_words (point_lens known) (codes "Its point has %p, where %n has %q.")
    ∷ advice_words (advice_of is_key known) reading
    ∷ advice_command (advice_of is_key known) reading ∷ []

-- the kind of the line of a sentence: a command is indented
abbrev pub kind_of : List ℕ → ℕ
kind_of sentence = if begins sentence (codes "  ") then COMMAND else WORDS

-- the line of a sentence, if it isn't empty
abbrev pub said_line : Known → List ℕ → List Told
said_line known sentence =
    if length sentence == 0 then []
    else told_line (line_of (kind_of sentence)) (kept (sentence_text known false sentence))

-- their lines
unfoldable pub said_lines : Bool → Reading → List ℕ → Known → List Told
said_lines is_key reading file known =
    flat_map (said_line known) (said_of is_key reading file known)

-- a line of this kind, or none
abbrev pub line_if : ℕ → List ℕ → List ℕ → List Told
line_if kind front text =
    if length text == 0 then [] else told_line (line_of kind) (kept (front ++ text))

-- what is said of a source with no bytes
abbrev pub note_lines : Sentence → List Told
note_lines note =
    line_if WORDS [] (words_of note) ++ line_if COMMAND (codes "  ") (command_of note)
