use Rattle.std.proofs.Common.{arith, ◌≡◌, ◌-◌, length, set, drop, take, refl}
use Rattle.std.proofs.lemmas.List.{drop-set-lt, length-set}
use Rattle.std.proofs.lemmas.Simd.{put_chunk_whole}
use borrow.Rule.Slice.PartMut.{put_same}
use Rattle.sec1.proofs.point.with_first.Goals as goal

pub returns-in-Some : goal.returns-in-Some
returns-in-Some g c =
    let bytes = c.args.bytes.now in
    let changed = set bytes 0 c.args.first in
    let tail : c.in-Some.rest.now ≡ take (length changed - 1) (drop 1 changed) =
    rw (drop-set-lt 1 bytes 0 c.args.first (omega arith), length-set bytes 0 c.args.first)
    (rw c.as_slice.ensures at c.in-Some.ensures.cases.same) in
    rw (c.as_mut_slice.ensures.value, tail, put_chunk_whole _ (take (length changed - 1) (drop 1 changed)) refl)
    (put_same 1 _ changed)
