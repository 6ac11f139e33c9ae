-- X.690 section 8.9: the parts of a SEQUENCE, the tags that they begin with, and those that mustn't
-- follow them.
use Rattle.std.specs.Prelude.{◌≡◌, ◌++◌, ◌∷◌, [], ◌&&◌, ◌==◌, not, ℕ, List, Bool, true, false}
use Rattle.std.specs.Prelude.{Option, Some, None, if◌then◌else◌, ⊤, Result, IsOkAnd, IsSomeAnd}
use Rattle.std.specs.Prelude.{MatchResult}
use Rattle.std.specs.List.{list_all, list_any}
use Rattle.sec1_der.specs.Elements.{element_of}
use Rattle.sec1_der.specs.Errors.{IsReadingFault}
use Rattle.sec1_der.specs.Faults.{Fault, IsFaultOf}
use Rattle.sec1_der.specs.Readers.{Reader, reader_over, HasRead, IsSuffix}
use Rattle.sec1_der.specs.declared.error.Error.{Error}

-- X.690 sections 8.9.2 and 8.9.3: the bytes of one part and those of the parts after it, if all of
-- them have an encoding. An absent OPTIONAL component has no bytes, []; one without an encoding is
-- None.
abbrev pub join : Option (List ℕ) → Option (List ℕ) → Option (List ℕ)
join None rest = None
join (Some first) None = None
join (Some first) (Some rest) = Some (first ++ rest)

-- What is known of a part by its type: the tags that it may begin with, whether it may have no
-- bytes, the tags that mustn't follow it, and whether inside it no such tag may follow.
pub record Tags : Type 0 where
  pub first : List ℕ
  pub nullable : Bool
  pub follow : List ℕ
  pub distinct : Bool

-- one element with this tag
abbrev pub one_tag : ℕ → Tags
one_tag tag = record { first = tag ∷ []; nullable = false; follow = []; distinct = true }

-- X.680 section 25.6: what follows an OPTIONAL part mustn't begin with one of its tags
abbrev pub optional_tags : Tags → Tags
optional_tags p =
    record { first = p.first; nullable = true; follow = p.first ++ p.follow; distinct = p.distinct }

-- one element with this tag, or nothing
abbrev pub optional_tag : ℕ → Tags
optional_tag tag = optional_tags (one_tag tag)

-- whether a tag is one of these
abbrev pub is_among : ℕ → List ℕ → Bool
is_among tag tags = list_any (λ other. tag == other) tags

-- X.680 section 25.6: one part after another; no tag in `follow` of the first begins the second
abbrev pub both_tags : Tags → Tags → Tags
both_tags p q = record {
  first = if p.nullable then p.first ++ q.first else p.first;
  nullable = p.nullable && q.nullable;
  follow = if q.nullable then q.follow ++ p.follow else q.follow;
  distinct = p.distinct && (q.distinct && list_all (λ tag. not (is_among tag q.first)) p.follow);
}

-- whether the bytes begin with one of these tags
abbrev pub begins_among : List ℕ → List ℕ → Bool
begins_among tags [] = false
begins_among tags (byte ∷ bytes) = is_among byte tags

-- no bytes, if that may be, or bytes that begin with one of the tags
abbrev pub Begins : Tags → List ℕ → Type 0
Begins tags [] = tags.nullable ≡ true
Begins tags (byte ∷ bytes) = is_among byte tags.first ≡ true

-- no bytes, or bytes that begin with no tag in `follow`
abbrev pub MayFollow : Tags → List ℕ → Type 0
MayFollow tags [] = ⊤
MayFollow tags (byte ∷ bytes) = is_among byte tags.follow ≡ false

-- X.690 section 8.9.3: the bytes of the part, or none if it is absent
abbrev pub optional_bytes : {P : Type 0} → (P → Option (List ℕ)) → Option P → Option (List ℕ)
optional_bytes bytes None = Some []
optional_bytes bytes (Some part) = bytes part

-- X.690 section 8.9.3: the element with this tag, or no bytes if the value is absent
abbrev pub optional_of : ℕ → Option (Option (List ℕ)) → Option (List ℕ)
optional_of tag content = optional_bytes (element_of tag) content

-- Where two parts, and what may follow them, have the same bytes, the parts are the same, and so is
-- what follows them.
abbrev pub AreDistinct : {A : Type 0} → Tags → (A → Option (List ℕ)) → Type 0
AreDistinct {A} tags bytes = (a b : A) (x y r s : List ℕ) → tags.distinct ≡ true → bytes a ≡ Some x
    → bytes b ≡ Some y
    → MayFollow tags r → MayFollow tags s → x ++ r ≡ y ++ s → (a ≡ b) × (r ≡ s)

-- A part is read by a reader that hasn't failed, and the bytes after it are left. `bytes` gives
-- those of a part, `tags` what is known of it by its type, and `and_then` the rule of a part and
-- what follows it.
pub record ReadsPart {P : Type 0} (bytes : P → Option (List ℕ))
    (and_then : Fault → Fault) (tags : Tags) (result : Result P Error)
    (old new : Reader) : Type 0 where
  -- Just the bytes of the part are read, and then the fault is that of what follows. Otherwise the
  -- kind is a function of the remaining input, and the reader has failed; its remaining input is
  -- what it was or the end of it.
  pub exact : MatchResult result
      (λ part. IsSomeAnd (bytes part) (λ whole. HasRead whole old new)
      × ((after : Fault) → and_then after old.unread ≡ after new.unread))
      (λ e. (new.failed ≡ true) × IsReadingFault e.kind
      × ((after : Fault) → IsFaultOf (and_then after old.unread) e.kind)
      × IsSuffix new.unread old.unread)
  -- if the remaining input begins with a part, and what follows can't be confused with it, that
  -- part is read
  pub only : (part : P) (whole rest : List ℕ) → tags.distinct ≡ true → bytes part ≡ Some whole
      → MayFollow tags rest → old ≡ reader_over (whole ++ rest)
      → IsOkAnd result (λ found. bytes found ≡ Some whole) × (new ≡ reader_over rest)
