-- The tags of points, the first bytes of their encodings.
use Rattle.std.specs.Prelude.{ℕ, ◌+◌, ◌*◌, ◌%◌, ◌==◌, if◌then◌else◌}
use Rattle.sec1.specs.Points.{Point, identity, compact, compressed, uncompressed, hybrid}
use Rattle.sec1.specs.declared.point.tag.Tag.{Tag}
use Rattle.sec1.specs.declared.point.tag.Tag.TheVariants as tags

-- the byte of a tag
abbrev pub byte_of : Tag → ℕ
byte_of tags.Identity = 0
byte_of tags.CompressedEvenY = 2
byte_of tags.CompressedOddY = 3
byte_of tags.Uncompressed = 4
byte_of tags.Compact = 5
byte_of tags.HybridEvenY = 6
byte_of tags.HybridOddY = 7

-- the length of an encoding with this tag, at field elements of n bytes
abbrev pub message_len : Tag → ℕ → ℕ
message_len tags.Identity n = 1
message_len tags.CompressedEvenY n = n + 1
message_len tags.CompressedOddY n = n + 1
message_len tags.Uncompressed n = 2 * n + 1
message_len tags.Compact n = n + 1
message_len tags.HybridEvenY n = 2 * n + 1
message_len tags.HybridOddY n = 2 * n + 1

-- the tag of a point's encoding
abbrev pub point_tag : Point → Tag
point_tag identity = tags.Identity
point_tag (compact x) = tags.Compact
point_tag (compressed x y_is_odd) = if y_is_odd then tags.CompressedOddY else tags.CompressedEvenY
point_tag (uncompressed x y) = tags.Uncompressed
point_tag (hybrid x y) = if y % 2 == 1 then tags.HybridOddY else tags.HybridEvenY
