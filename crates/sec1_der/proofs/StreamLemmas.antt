-- Reading one element from a stream: what was taken, step by step, and what a refusal says of all the bytes that were
-- left.
use Rattle.std.proofs.Common.{◌≡◌, ℕ, ◌+◌, ◌<◌, ◌≤◌, List, [], ◌∷◌, ◌++◌, length, take, drop, get_or, Option, ◌⊎◌, inl}
use Rattle.std.proofs.Common.{inr, ⊎_elim, arith, refl, subst, sym, ap, ◌∙◌, append-nil, append_assoc, length-append}
use Rattle.std.proofs.Common.{tests, length-take-le, Some, None, IfSome, Result, Ok, Err, IfOk, IfErr, MatchResult}
use Rattle.std.proofs.Math.Seq.{take-append-add}
use Rattle.std.proofs.lemmas.Grind.{common_steps}
use Rattle.std.proofs.lemmas.Bool.{cases_Bool, cases_lt}
use Rattle.std.proofs.lemmas.List.{nil_from_length, take_more, take-append-le}
use Rattle.std.specs.Io.KnownBytes.{Consumes, Keeps, IsAtEnd}
use borrow.Rule.Slice.PartMut.{put_mid}
use Rattle.sec1_der.specs.declared.error.Error.{Error}
use Rattle.sec1_der.specs.declared.error.ErrorKind.{ErrorKind}
use Rattle.sec1_der.specs.declared.error.ErrorKind.TheVariants.{Truncated, TrailingData, Io, Memory, Tag, Length}
use Rattle.sec1_der.specs.Elements.{IsElement, IsHeader, header, is_tag}
use Rattle.sec1_der.specs.Errors.{header_fault, length_fault}
use Rattle.sec1_der.specs.Streams.{TakenBeforeRefusal, RefusesElement, ReadsOnto, Takes, Ends}
use Rattle.sec1_der.specs.Faults.{no_fault, end_fault, document_fault}
use Rattle.sec1_der.proofs.HeaderLemmas.{LacksHeader, longer, header_front, header_fault_kinds}
use Rattle.sec1_der.proofs.ElementFaultLemmas.{document_element, any_without_header, any_short, longer_fault}
use Rattle.sec1_der.proofs.FaultLaws.{any_room}
use Rattle.sec1_der.proofs.StreamLaws.{takes_more, takes_nothing, takes_kept, TakesFewer}

-- ---- bytes that were taken

-- a slice into a part of which was written begins with what stood before the part, and the first bytes of the part
take_part : (start k : ℕ) (slice part : List ℕ) (n : ℕ) → start ≤ length slice → n ≤ length part
    → take (start + n) (put_mid start k slice part) ≡ take start slice ++ take n part
take_part start k slice part n inside few = grind (arith, common_steps, take-append-add, take-append-le, length-take-le)

-- what was read into the beginning of a slice, and then into the part after it, was read into both
pub reads_part : {S : Type 0} (left taken : S → Option (List ℕ)) (old mid new : S) (start k : ℕ)
    (slice part : List ℕ) (n : ℕ) → start ≤ length slice → n ≤ length part
    → Takes left taken old mid (take start slice) → Takes left taken mid new (take n part)
    → Takes left taken old new (take (start + n) (put_mid start k slice part))
reads_part left taken old mid new start k slice part n inside few first next =
    rw (take_part start k slice part n inside few)
    (takes_more left taken old mid new (take start slice) (take n part) first next)

-- what was read onto bytes, and then more, was read onto them together
pub reads_more : {S : Type 0} (left taken : S → Option (List ℕ)) (old mid new : S) (start middle end : List ℕ)
    (n m sum : ℕ) → ReadsOnto (Takes left taken old mid) start middle n → n + m ≡ sum
    → ReadsOnto (Takes left taken mid new) middle end m → ReadsOnto (Takes left taken old new) start end sum
reads_more left taken old mid new start middle end n m sum read is more =
    let both = takes_more left taken old mid new read.bytes more.bytes read.taken more.taken in
    record {
      bytes = _;
      taken = both;
      appended = rw (more.appended, read.appended) (append_assoc start _ _);
      count = omega (arith, length-append read.bytes more.bytes);
    }

-- ---- the header

-- the bytes end inside a header
pub record IsCutHeader (bytes : List ℕ) : Type 0 where
  pub fault_is : header_fault bytes ≡ Truncated
  pub none : LacksHeader bytes

-- bytes that begin with no header are refused by its fault
pub header_refused : (kind : ErrorKind) (bytes : List ℕ) → LacksHeader bytes → header_fault bytes ≡ kind
    → document_fault bytes ≡ Some (Some kind)
header_refused kind bytes none is =
    any_without_header (λ _. no_fault) end_fault bytes none ∙ ap (λ k. Some (Some k)) is

-- bytes that have one more than an incomplete header
pub record IsLonger (bytes : List ℕ) : Type 0 where
  pub before : List ℕ
  pub last : ℕ
  pub joined : bytes ≡ before ++ last ∷ []
  pub cut : IsCutHeader before

-- no bytes, or one more than some truncated ones
abbrev pub IsReachable : List ℕ → Type 0
IsReachable bytes = (bytes ≡ []) ⊎ IsLonger bytes

-- one byte more is read after an incomplete header
pub one_more : (start k : ℕ) (slice part : List ℕ) → start ≤ length slice → header_fault (take start slice) ≡ Truncated
    → LacksHeader (take start slice)
    → length part ≡ 1 → IsReachable (take (start + 1) (put_mid start k slice part))
one_more start k slice part inside short none size =
    let joined : take (start + 1) (put_mid start k slice part) ≡ take start slice ++ get_or part 0 0 ∷ [] =
    grind (arith, common_steps, take_part start k slice part 1 inside, take_more) in
    inr (record { before = _; last = _; joined = joined; cut = record { fault_is = short; none = none } })

-- a header that came with its last byte is all that was read
pub read_alone : (Taken : List ℕ → Type 0) (tag n : ℕ) (bytes rest : List ℕ) → IsHeader tag n
    → bytes ≡ header tag n ++ rest → IsReachable bytes
    → Taken bytes → IsHeader tag n × Taken (header tag n)
read_alone Taken tag n bytes rest is split (inl empty) taken = absurd (cc (empty, split))
read_alone Taken tag n bytes rest is split (inr one) taken =
    let joined = sym one.joined ∙ split in
    ⊎_elim
    (λ short. let none = nil_from_length rest (omega (arith, simp length-append at (ap length joined))) in
    (is, rw (split, none, append-nil (header tag n)) at taken))
    (λ within. let c =
    longer one.before (header tag n) (one.last ∷ []) rest joined within in
    absurd (one.cut.none tag n c.after is c.front))
    (cases_lt (length one.before) (length (header tag n)))

-- the fault of a first byte that is no tag comes with this byte
tag_alone : (front : List ℕ) (last : ℕ) → header_fault front ≡ Truncated → header_fault (front ++ last ∷ []) ≡ Tag
    → front ≡ []
tag_alone [] last cut bad = refl
tag_alone (byte ∷ []) last cut bad = grind (arith, tests)
tag_alone (byte ∷ first ∷ digits) last cut bad = grind (arith, tests)

-- a byte that begins no header, or continues none, is refused as soon as it was taken
pub taken_here : (kind : ErrorKind) (bytes : List ℕ) → IsReachable bytes → LacksHeader bytes → header_fault bytes ≡ kind
    → (kind ≡ Truncated → ⊥) → TakenBeforeRefusal kind bytes
taken_here kind bytes (inl empty) none is other = absurd (other (sym is ∙ ap header_fault empty))
taken_here Truncated bytes (inr one) none is other = absurd (other refl)
taken_here Tag bytes (inr one) none is other =
    let alone = tag_alone one.before one.last one.cut.fault_is (rw one.joined at is) in
    (one.before, one.last, one.joined, alone, header_refused Tag bytes none is)
taken_here Length bytes (inr one) none is other =
    let cut = header_refused Truncated one.before one.cut.none one.cut.fault_is in
    (one.before, one.last, one.joined, cut, header_refused Length bytes none is)
taken_here kind bytes (inr one) none is other = absurd (rw is at (header_fault_kinds bytes))

-- an incomplete header has at most five bytes
digits_are_few : (first : ℕ) (digits : List ℕ) → length_fault (first ∷ digits) ≡ Truncated → length digits ≤ 3
digits_are_few first digits e = grind (arith, tests)

pub cut_is_short : (bytes : List ℕ) → header_fault bytes ≡ Truncated → length bytes ≤ 5
cut_is_short [] e = omega arith
cut_is_short (byte ∷ []) e = omega arith
cut_is_short (byte ∷ first ∷ digits) e = ⊎_elim
    (λ tag. omega (arith, digits_are_few first digits (rw tag at e)))
    (λ other. absurd (cc (rw other at e)))
    (cases_Bool (is_tag byte))

-- ---- the content

-- fewer bytes than are missing were read, and so fewer than were announced
pub fewer_in_all : {S : Type 0} (left taken : S → Option (List ℕ)) (old mid new : S) (start middle : List ℕ)
    (n missing announced : ℕ) → ReadsOnto (Takes left taken old mid) start middle n → n + missing ≡ announced
    → TakesFewer (Takes left taken mid new) missing → TakesFewer (Takes left taken old new) announced
fewer_in_all left taken old mid new start middle n missing announced read sum fewer =
    let both = takes_more left taken old mid new read.bytes fewer.0 read.taken fewer.1 in
    let few : length (read.bytes ++ fewer.0) < announced = omega
    (arith, length-append read.bytes fewer.0) in
    (_, both, few)

-- ---- the element

-- a header and the content that it announces are an element
whole_element : (tag n : ℕ) (content : List ℕ) → IsHeader tag n → length content ≡ n
    → IsElement (header tag n ++ content)
whole_element tag n content is count =
    record { tag = tag; content = content; is_header = rw count is; encoded = rw count refl }

-- bytes after an element are trailing data
byte_fault : (front : List ℕ) (byte : ℕ) (more : List ℕ) → IsElement front
    → document_fault (front ++ byte ∷ more) ≡ Some (Some TrailingData)
byte_fault front byte more is = longer_fault _ front is (record { more = byte ∷ more; some = λ e. cc e; split = refl })

-- an element is refused by what was taken after its header
refused_after : (kind : ErrorKind) {S : Type 0} (left taken : S → Option (List ℕ)) (Ended : Type 0) (old mid new : S)
    (tag n : ℕ) (bytes : List ℕ) → Takes left taken old mid (header tag n) → Takes left taken mid new bytes
    → TakenBeforeRefusal kind (header tag n ++ bytes) → (kind ≡ Truncated → Ended)
    → RefusesElement kind (Takes left taken old new) Ended
refused_after kind left taken Ended old mid new tag n bytes first more by_kind at_end =
    let all = takes_more left taken old mid new (header tag n) bytes first more in search

-- where a content is refused, so is the element
pub refused_content : (kind : ErrorKind) {S : Type 0} (left taken : S → Option (List ℕ)) (Ended : Type 0)
    (old mid new : S) (tag n : ℕ) → IsHeader tag n → Takes left taken old mid (header tag n)
    → TakesFewer (Takes left taken mid new) n → ((kind ≡ Io) ⊎ (kind ≡ Memory)) ⊎ ((kind ≡ Truncated) × Ended)
    → RefusesElement kind (Takes left taken old new) Ended
refused_content kind left taken Ended old mid new tag n is first (content, more, few) why =
    refused_after kind left taken Ended old mid new tag n content first more (by why).0 (by why).1
  where
    cut : document_fault (header tag n ++ content) ≡ Some (Some Truncated)
    cut = any_short (λ _. no_fault) end_fault tag n _ content is refl few

    by : ((kind ≡ Io) ⊎ (kind ≡ Memory)) ⊎ ((kind ≡ Truncated) × Ended)
        → TakenBeforeRefusal kind (header tag n ++ content) × (kind ≡ Truncated → Ended)
    by (inl (inl io)) = (rw io (inl cut), λ e. absurd (cc (io, e)))
    by (inl (inr memory)) = (rw memory (inl (tag, n, content, is, few, refl)), λ e. absurd (cc (memory, e)))
    by (inr (short, ended)) = (rw short cut, λ _. ended)

-- where the memory for a content is refused, so is the element
pub refused_growth : {S : Type 0} (left taken : S → Option (List ℕ)) (Ended : Type 0) (old new : S) (tag n : ℕ)
    → IsHeader tag n → Takes left taken old new (header tag n) → RefusesElement Memory (Takes left taken old new) Ended
refused_growth left taken Ended old new tag n is first =
    refused_after Memory left taken Ended old new new tag n [] first (takes_nothing left taken new)
    (⊎_elim (λ some. inl (tag, n, [], is, some, refl))
    (λ (none : n ≤ 0). inr (whole_element tag n [] is (omega arith)))
    (cases_lt 0 n)) (λ e. absurd (cc e))

-- an element after which a read failed is refused as Io
pub refused_long : {S : Type 0} (left taken : S → Option (List ℕ)) (Ended : Type 0) (old mid next new : S) (tag n : ℕ)
    (after : List ℕ) → IsHeader tag n → Takes left taken old mid (header tag n)
    → ReadsOnto (Takes left taken mid next) (header tag n) after n → Keeps (left next) (left new)
    → Keeps (taken next) (taken new) → RefusesElement Io (Takes left taken old new) Ended
refused_long left taken Ended old mid next new tag n after is first r left_kept taken_kept =
    refused_after Io left taken Ended old mid new tag n r.bytes first
    (takes_kept left taken mid next new r.bytes r.taken left_kept taken_kept)
    (inr (whole_element tag n r.bytes is r.count)) (λ e. absurd (cc e))

-- an element after which a byte was read is refused as TrailingData
pub byte_more : {S : Type 0} (left taken : S → Option (List ℕ)) (Ended : Type 0) (old mid next new : S) (tag n : ℕ)
    (after last : List ℕ) → IsHeader tag n → Takes left taken old mid (header tag n)
    → ReadsOnto (Takes left taken mid next) (header tag n) after n → Takes left taken next new last → length last ≡ 1
    → RefusesElement TrailingData (Takes left taken old new) Ended
byte_more left taken Ended old mid next new tag n after [] is first r more one = absurd (omega arith)
byte_more left taken Ended old mid next new tag n after (byte ∷ b ∷ bs) is first r more one = absurd (omega arith)
byte_more left taken Ended old mid next new tag n after (byte ∷ []) is first r more one =
    let front = header tag n ++ r.bytes in
    let whole = whole_element tag n r.bytes is r.count in
    let P : List ℕ → Type 0 = λ xs. document_fault xs ≡ Some (Some TrailingData) in
    refused_after TrailingData left taken Ended old mid new tag n (r.bytes ++ byte ∷ []) first
    (takes_more left taken mid next new r.bytes (byte ∷ []) r.taken more) (
      front,
      byte,
      sym (append_assoc (header tag n) r.bytes (byte ∷ [])),
      whole,
      subst P (append_assoc (header tag n) r.bytes (byte ∷ [])) (byte_fault front byte [] whole),
    ) (λ e. absurd (cc e))

-- the ways in which an element is refused after its header
pub ruleset element_refusals = (refused_growth, refused_content, refused_long, byte_more, length-take-le)

-- ---- what a refusal says of all the bytes

-- a bad tag or length stays one whatever follows it
header_stays : (kind : ErrorKind) (bytes more : List ℕ) → header_fault bytes ≡ kind → (kind ≡ Truncated → ⊥)
    → header_fault (bytes ++ more) ≡ kind
header_stays kind [] more is other = absurd (other (sym is))
header_stays kind (byte ∷ []) more is other = grind (arith, tests)
header_stays kind (byte ∷ first ∷ digits) more is other = grind (arith, tests, length-append)

-- bytes that are refused neither as truncated nor for what follows begin with no header
no_header : (kind : ErrorKind) (bytes : List ℕ) → document_fault bytes ≡ Some (Some kind) → (kind ≡ Truncated → ⊥)
    → (kind ≡ TrailingData → ⊥) → LacksHeader bytes
no_header kind bytes fault first second tag n rest is e = ⊎_elim
    (λ few. first (cc (fault, any_short (λ _. no_fault) end_fault tag n bytes rest is e few)))
    (λ room. after (drop n rest)
    (sym (any_room (λ _. no_fault) end_fault tag n bytes rest is e room) ∙ fault))
    (cases_lt (length rest) n)
  where
    after : (xs : List ℕ) → end_fault xs ≡ Some (Some kind) → ⊥
    after [] e = cc e
    after (x ∷ xs) e = second (cc e)

-- a fault of a header stays, whatever follows it
fault_stays : (kind : ErrorKind) (bytes more : List ℕ) → document_fault bytes ≡ Some (Some kind)
    → (kind ≡ Truncated → ⊥) → (kind ≡ TrailingData → ⊥) → document_fault (bytes ++ more) ≡ Some (Some kind)
fault_stays kind bytes more fault first second =
    let none = no_header kind bytes fault first second in
    let is : header_fault bytes ≡ kind = cc (fault, header_refused (header_fault bytes) bytes none refl) in
    header_refused kind (bytes ++ more) (λ tag n rest h e. ⊎_elim
    (λ longer. none tag n longer.after h longer.front)
    (λ cut. first (sym is ∙ cut))
    (header_front tag n bytes more rest h e))
    (header_stays kind bytes more is first)

-- the kind by which all the bytes are refused is a function of what was read
taken_fault : (kind : ErrorKind) (bytes more : List ℕ) → (kind ≡ Truncated → more ≡ []) → TakenBeforeRefusal kind bytes
    → ((kind ≡ Io) ⊎ (kind ≡ Memory)) ⊎ (document_fault (bytes ++ more) ≡ Some (Some kind))
taken_fault Io bytes more end taken = inl (inl refl)
taken_fault Memory bytes more end taken = inl (inr refl)
taken_fault Truncated bytes more end fault = rw (end refl, append-nil bytes) (inr fault)
taken_fault Tag bytes more end bad =
    inr (fault_stays Tag bytes more bad.4 (λ e. cc e) (λ e. cc e))
taken_fault Length bytes more end bad =
    inr (fault_stays Length bytes more bad.4 (λ e. cc e) (λ e. cc e))
taken_fault TrailingData bytes more end longer = inr (
    rw (longer.2, append_assoc longer.0 (longer.1 ∷ []) more) (byte_fault longer.0 longer.1 more longer.3))
taken_fault kind bytes more end taken = absurd taken

-- an element that was all that was left isn't refused
read_fault : (old new : Option (List ℕ)) (bytes : List ℕ) → IsElement bytes → Consumes old new bytes → IsAtEnd new
    → IfSome old (λ all. document_fault all ≡ None)
read_fault None new bytes is consumed end = tt
read_fault (Some all) None bytes is consumed end = absurd consumed
read_fault (Some all) (Some left) bytes is consumed end =
    rw (consumed, end, append-nil bytes) (document_element bytes is)

-- a kind that says something of the bytes is the fault of them all
refused_fault : (kind : ErrorKind) (old new : Option (List ℕ)) (bytes : List ℕ)
    → Consumes old new bytes → TakenBeforeRefusal kind bytes → (kind ≡ Truncated → IsAtEnd new)
    → ((kind ≡ Io) ⊎ (kind ≡ Memory)) ⊎ IfSome old (λ all. document_fault all ≡ Some (Some kind))
refused_fault kind None new bytes consumed by_kind end = inr tt
refused_fault kind (Some all) None bytes consumed by_kind end = absurd consumed
refused_fault kind (Some all) (Some left) bytes consumed by_kind end =
    rw consumed (taken_fault kind bytes left end by_kind)

-- the kind of a refusal is a function of all that was left
pub document_kind : {S : Type 0} (left taken : S → Option (List ℕ)) (ended : S → Type 0) (old new : S)
    (result : Result (List ℕ) Error)
    → IfOk result (λ bytes. IsElement bytes × Takes left taken old new bytes × Ends left ended new)
    → IfErr result (λ error. RefusesElement error.kind (Takes left taken old new) (Ends left ended new))
    → MatchResult result (λ _. IfSome (left old) (λ all. document_fault all ≡ None))
    (λ error. ((error.kind ≡ Io) ⊎ (error.kind ≡ Memory))
    ⊎ IfSome (left old) (λ all. document_fault all ≡ Some (Some error.kind)))
document_kind left taken ended old new (Ok bytes) found refused =
    read_fault (left old) (left new) bytes found.0 found.1.consumed found.2.none_left
document_kind left taken ended old new (Err error) found r =
    refused_fault error.kind (left old) (left new) r.bytes r.taken.consumed r.by_kind (λ e. (r.at_end e).none_left)

-- bytes that are refused by such a kind are no element
pub document_none : (left : Option (List ℕ)) (result : Result (List ℕ) Error)
    → MatchResult result (λ _. IfSome left (λ all. document_fault all ≡ None))
    (λ error. ((error.kind ≡ Io) ⊎ (error.kind ≡ Memory))
    ⊎ IfSome left (λ all. document_fault all ≡ Some (Some error.kind)))
    → IfErr result (λ error. ((error.kind ≡ Io) ⊎ (error.kind ≡ Memory)) ⊎ IfSome left (λ all. ¬ (IsElement all)))
document_none left (Ok bytes) kind = tt
document_none left (Err error) (inl other) = inl other
document_none None (Err error) (inr fault) = inr tt
document_none (Some all) (Err error) (inr fault) = inr (λ is. cc (document_element all is, fault))
