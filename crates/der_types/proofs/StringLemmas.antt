-- The tests of contents of character strings.
use Rattle.std.proofs.lemmas.Str.{is_utf8-from_IsUtf8, IsUtf8-from_is_utf8}

-- the test for UTF-8 is exact
pub ruleset utf8_tests = (is_utf8-from_IsUtf8, IsUtf8-from_is_utf8)
