-- RFC 5280 section 4.1.2.1: the versions of certificates.
use Rattle.std.specs.Prelude.{◌||◌, ℕ, List, [], ◌∷◌, Bool}
use Rattle.std.specs.Str.{bytes_eq}
use Rattle.pkix.specs.declared.version.LaterVersion.{LaterVersion}
use Rattle.pkix.specs.declared.version.LaterVersion.TheVariants.{V2, V3}

-- v2 is the number 1 and v3 the number 2
abbrev pub later_version_content : LaterVersion → List ℕ
later_version_content V2 = 1 ∷ []
later_version_content V3 = 2 ∷ []

-- whether the bytes are the content of v2 or v3
abbrev pub is_later_version : List ℕ → Bool
is_later_version content = bytes_eq content (1 ∷ []) || bytes_eq content (2 ∷ [])
