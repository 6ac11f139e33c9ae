-- Characters in UTF-8 and UTF-16.
use Rattle.std.proofs.StrCases.{chars_of_empty}
use Rattle.std.proofs.lemmas.Bool.Decides.{nat_tests}
use Rattle.std.proofs.lemmas.Str.{IsUtf8-from_is_utf8, chars_past_char}
use Rattle.std.proofs.lemmas.Str.{utf16_chars-nil, utf16_chars_lone, utf16_chars_pair}

pub ruleset utf8 = (IsUtf8-from_is_utf8)

pub ruleset first = (chars_of_empty, chars_past_char, utf16_chars-nil)

pub ruleset utf16 = (nat_tests, utf16_chars-nil, utf16_chars_lone, utf16_chars_pair)
