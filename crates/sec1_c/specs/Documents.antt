-- What the header at the beginning of some bytes announces (X.690 sections 8.1.2 and 8.1.3).
use Rattle.std.specs.Prelude.{◌≡◌, ℕ, ◌+◌, List, ◌++◌, length}
use Rattle.sec1_der.specs.Elements.{IsHeader, element, header}

-- the bytes are a header, which announces a content of this length, and these bytes after it
pub record Announces (bytes inside : List ℕ) (announced : ℕ) (tag : ℕ) : Type 0 where
  pub is_header : IsHeader tag announced
  pub split : bytes ≡ header tag announced ++ inside

-- the length of an element with this tag and a content of this length
abbrev pub element_len : ℕ → ℕ → ℕ
element_len tag announced = length (header tag announced) + announced

-- the bytes begin with an element, whose header and whose content have these lengths
pub record BeginsWithElement (bytes : List ℕ) (header_len content_len : ℕ) : Type 0 where
  pub tag : ℕ
  pub content : List ℕ
  pub rest : List ℕ
  pub is_header : IsHeader tag (length content)
  pub split : bytes ≡ element tag content ++ rest
  pub header_is : header_len ≡ length (header tag (length content))
  pub content_is : content_len ≡ length content
