use Rattle.std.proofs.Common.{◌≡◌, length, nat_cmp}
use Rattle.std.specs.Cmp.Lexicographic.{slice_cmp}
use Rattle.hex.specs.Hex.{IsBytes}
use Rattle.sec1.proofs.point.order.words_cmp.Given as goal

-- what is left decides
abbrev pub invariant-loop-word : goal.invariant-loop-word
invariant-loop-word l = record {
  order : slice_cmp nat_cmp l.rest l.other_rest ≡ slice_cmp nat_cmp l.a l.b;
  bytes : IsBytes l.rest;
  other_bytes : IsBytes l.other_rest;
}

abbrev pub decreases-loop-word : goal.decreases-loop-word
decreases-loop-word l = length l.rest

-- what is left decides
abbrev pub invariant-loop-byte : goal.invariant-loop-byte
invariant-loop-byte l = slice_cmp nat_cmp l.rest l.other_rest ≡ slice_cmp nat_cmp l.a l.b

abbrev pub decreases-loop-byte : goal.decreases-loop-byte
decreases-loop-byte l = length l.rest
