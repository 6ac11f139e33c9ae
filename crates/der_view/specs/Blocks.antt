-- The blocks of PEM in a text (RFC 7468).
use Rattle.std.specs.Prelude.{ℕ, suc, ◌+◌, ◌-◌, ◌==◌, ◌&&◌, ◌||◌, not, Bool, true, false, nat_le}
use Rattle.std.specs.Prelude.{nat_eq, if◌then◌else◌, List, [], ◌∷◌, length, take, drop, codes}
use Rattle.std.specs.Prelude.{Option, Some, None, is_none, option_and_then, option_map}
use Rattle.std.specs.Char.{is_ascii_whitespace}
use Rattle.std.specs.List.{ends_with, list_all, list_any, prefix_len, starts_with}
use Rattle.std.specs.Str.{bytes_eq}
use Rattle.der_view.specs.declared.text.pem.Block.{Block}
use Rattle.der_view.specs.declared.text.pem.Sought.{Sought}
use Rattle.der_view.specs.declared.text.pem.Sought.TheVariants as soughts

-- ---- places in a text

-- whether bytes begin so
abbrev pub begins : List ℕ → List ℕ → Bool
begins bytes front = starts_with nat_eq bytes front

-- whether a text has a byte
abbrev pub has : List ℕ → ℕ → Bool
has text byte = list_any (λ other. other == byte) text

-- whether a line ends with this byte, which these are after (RFC 7468 section 3)
abbrev pub ends_line : ℕ → List ℕ → Bool
ends_line byte after = byte == 0x0A || (byte == 0x0D && not (begins after (0x0A ∷ [])))

-- how many bytes of a text, with which a line begins or not, are before the first place that
-- passes; all if none does
abbrev pub len_before : (Bool → List ℕ → Bool) → Bool → List ℕ → ℕ
len_before passes starts [] = 0
len_before passes starts (byte ∷ text) =
    if passes starts (byte ∷ text) then 0
    else suc (len_before passes (ends_line byte text) text)

-- these bytes, the text from there on, and whether there is such a place
abbrev pub before : (Bool → List ℕ → Bool) → Bool → List ℕ → List ℕ
before passes starts text = take (len_before passes starts text) text

abbrev pub onward : (Bool → List ℕ → Bool) → Bool → List ℕ → List ℕ
onward passes starts text = drop (len_before passes starts text) text

abbrev pub is_in : (Bool → List ℕ → Bool) → Bool → List ℕ → Bool
is_in passes starts text = not (length (onward passes starts text) == 0)

-- these bytes; a line that begins with these; and one that is empty, but for white space
abbrev pub bytes_at : List ℕ → Bool → List ℕ → Bool
bytes_at bytes starts text = begins text bytes

abbrev pub begin_at : Bool → List ℕ → Bool
begin_at = bytes_at (codes "-----BEGIN ")

abbrev pub line_at : List ℕ → Bool → List ℕ → Bool
line_at front starts text = starts && begins text front

-- a text without white space in front, and that
abbrev pub trimmed_start : List ℕ → List ℕ
trimmed_start text = drop (prefix_len is_ascii_whitespace text) text

abbrev pub space_in : List ℕ → List ℕ
space_in text = take (length text - length (trimmed_start text)) text

-- whether the first line of a text is empty, but for white space
abbrev pub is_blank : List ℕ → Bool
is_blank text =
    length (trimmed_start text) == 0 || (has (space_in text) 0x0A || has (space_in text) 0x0D)

abbrev pub is_at : Sought → Bool → List ℕ → Bool
is_at (soughts.Bytes bytes) = bytes_at bytes.now
is_at (soughts.Line front) = line_at front.now
is_at soughts.Blank = λ starts text. starts && is_blank text

-- ---- labels

-- a capital letter, a digit, a space, a number sign or a full stop
abbrev pub is_label_byte : ℕ → Bool
is_label_byte byte =
    (nat_le 0x41 byte && nat_le byte 0x5A) || (nat_le 0x30 byte && nat_le byte 0x39)
    || (byte == 0x20 || (byte == 0x23 || byte == 0x2E))

-- a label: 1 to 40 of them
abbrev pub is_label : List ℕ → Bool
is_label text =
    nat_le 1 (length text) && (nat_le (length text) 40 && list_all is_label_byte text)

abbrev pub dashes : List ℕ
dashes = codes "-----"

-- what is after a front of a text; None if the text hasn't that
abbrev pub after_front : List ℕ → List ℕ → Option (List ℕ)
after_front front text =
    if bytes_eq (take (length front) text) front then Some (drop (length front) text) else None

-- the label before the first dashes of a text, and what is after these
abbrev pub split_label : List ℕ → Option (List ℕ × List ℕ)
split_label text =
    if is_label (before (bytes_at dashes) true text)
    then option_map (λ after. (before (bytes_at dashes) true text, after))
    (after_front dashes (onward (bytes_at dashes) true text))
    else None

-- and of a text that begins with dashes and this word before that
abbrev pub labelled : List ℕ → List ℕ → Option (List ℕ × List ℕ)
labelled word text =
    option_and_then split_label (option_and_then (after_front word) (after_front dashes text))

-- the label in the line that a text begins with: dashes, this word, the label and dashes, with
-- white space after them left out (RFC 7468 section 3: preeb, posteb)
abbrev pub line_label : List ℕ → List ℕ → Option (List ℕ)
line_label word text =
    option_and_then (λ found. if is_blank found.1 then Some found.0 else None) (labelled word text)

-- whether a text begins with the last line of a block with this label
abbrev pub is_this : Option (List ℕ) → List ℕ → Bool
is_this None label = false
is_this (Some text) label = bytes_eq text label

-- ---- blocks

-- the headers in what is between the first line and the last one, and the body: there are headers
-- if there is an empty line, with a colon before it (RFC 1421 section 4.4)
abbrev pub split_headers : List ℕ → List ℕ × List ℕ
split_headers inside =
    if is_in (is_at soughts.Blank) true inside
    && has (before (is_at soughts.Blank) true inside) 0x3A
    then (
      before (is_at soughts.Blank) true inside,
      onward (line_at []) false (onward (is_at soughts.Blank) true inside),
    )
    else ([], inside)

-- a block: the number of its first line, of which that of a text has 1; its label, and its body
-- without headers; whether it has headers, these say that it is encrypted, and it has its last line
pub record BlockView : Type 0 where
  pub line : ℕ
  pub label : List ℕ
  pub body : List ℕ
  pub has_headers : Bool
  pub is_encrypted : Bool
  pub has_end : Bool

abbrev pub block_view : Block → BlockView
block_view block = record {
  line = block.line;
  label = block.label.now;
  body = block.body.now;
  has_headers = block.has_headers;
  is_encrypted = block.is_encrypted;
  has_end = block.has_end;
}

-- what is between the first line of a block, which this is in but for its first byte, and the next
-- one that may be a last line
abbrev pub inside : List ℕ → List ℕ
inside text = onward (line_at []) false (before (line_at dashes) false text)

-- the block with this label in its first line, of which this is the number, before this text
abbrev pub block_of : ℕ → List ℕ → List ℕ → BlockView
block_of line label text = record {
  line = line;
  label = label;
  body = (split_headers (inside text)).1;
  has_headers = not (length (split_headers (inside text)).0 == 0);
  is_encrypted =
      is_in (line_at (codes "Proc-Type: 4,ENCRYPTED")) true (split_headers (inside text)).0;
  has_end = is_this (line_label (codes "END ") (onward (line_at dashes) false text)) label;
}

-- the number of a line that begins here, or not, after so many lines; and its label if it begins a
-- block
abbrev pub line_number : Bool → ℕ → ℕ
line_number starts number = number + (if starts then 1 else 0)

abbrev pub begin_label : Bool → List ℕ → Option (List ℕ)
begin_label starts text = if starts then line_label (codes "BEGIN ") text else None

abbrev pub with_block : Option (List ℕ) → ℕ → List ℕ → List BlockView → List BlockView
with_block None line text blocks = blocks
with_block (Some label) line text blocks = block_of line label text ∷ blocks

-- the blocks whose first lines begin in a text, after so many lines
abbrev pub blocks_in : Bool → ℕ → List ℕ → List BlockView
blocks_in starts number [] = []
blocks_in starts number (byte ∷ text) =
    with_block (begin_label starts (byte ∷ text)) (line_number starts number) text
    (blocks_in (is_none (begin_label starts (byte ∷ text)) && ends_line byte text)
    (line_number starts number) text)

-- whether the label of a block ends in the words that those of private keys end in
abbrev pub is_of_private_key : BlockView → Bool
is_of_private_key block = ends_with nat_eq block.label (codes "PRIVATE KEY")

-- whether OpenSSL reads a key from a block, if it is the first one of a private key: it has its
-- last line, one of three labels, and no headers but those of encryption
abbrev pub is_key_of_openssl : BlockView → Bool
is_key_of_openssl block =
    block.has_end
    && ((bytes_eq block.label (codes "EC PRIVATE KEY")
    || (bytes_eq block.label (codes "PRIVATE KEY")
    || bytes_eq block.label (codes "ENCRYPTED PRIVATE KEY")))
    && (not block.has_headers || block.is_encrypted))
