-- Laws of a walk that takes one stretch after another: how many it has counted, and what it has written.
-- Assumes nothing.
use mathlib.Core.Path.{◌≡◌, refl, sym, ap, ◌∙◌}
use mathlib.Core.Bool.{Bool, false, ◌||◌}
use mathlib.Core.List.{List, [], ◌∷◌, ◌++◌, flat_map, append-nil}
use mathlib.Core.Option.{none, some}
use Prim.Native.Nat.{ℕ, suc, ◌+◌, ◌-◌, ◌*◌, ◌/◌, ◌^◌, min, ◌≤◌, ◌<◌}
use native.Mathlib.Omega.{arith}
use native.Mathlib.Nat.{zero-add}
use lib.Dec.{ltb}
use lib.ListN.{length, take, drop, length-drop}
use lib.Seq.{take_all, take-add, drop-drop, length-take-le}
use borrow.Author.Tests.{lt-ltb, le-ltb}
use Rattle.rules.specs.Lists.{pick◌then◌else◌, filter, find, begun}
use Rattle.rules.specs.Sizes.{unit_bytes}
use Rattle.rules.specs.Bytes.{le_digits, part, patch}
use Rattle.rules.specs.Head.{Head, decode_head}
use Rattle.rules.specs.Card.{card_bytes, decode_card}
use Rattle.rules.specs.Book.{decode_book}
use Rattle.rules.specs.Group.{Group}
use Rattle.rules.specs.Refusal.{number_of}
use Rattle.rules.specs.Stretches.{Stretch, stretches, stretch_bytes, encode_stretch, most_number, range_wrong}
use Rattle.rules.proofs.ListLaws.{if-true, if-false, maybe-some, maybe-none, or_left, or_right, each-any}
use Rattle.rules.proofs.CountLaws.{range_none, flat_map-append}
use Rattle.rules.proofs.ByteLaws.{length-le_digits, patch-none, patch-patch}
use Rattle.rules.proofs.BookLaws.{length-flat_map}
use Rattle.rules.proofs.StretchLaws.{length-encode_stretch}
use Rattle.format.specs.declared.head.Head as struct
use Rattle.format.specs.Records.{head_of}
use Rattle.std.proofs.Common.{Option, Some, None}
use Rattle.book.specs.Places.{record_at, found_in, FoundFirst, card_is}
use Rattle.read.proofs.GivesLaws.{head-cards}
use Rattle.presence.specs.Units.{GroupsRight, groups_in, slotted, stretch, stretches_from}
use Rattle.read.specs.Gives.{gives}
use Rattle.stretches.specs.Lists.{lists_pairs, lists_file, lists_object}
use Rattle.stretches.proofs.ClipLaws.{clipped-stretches}

-- ---- the stretches that are left

-- at the end there are none
pub none_left : (f : ℕ → Bool) (unit end : ℕ) → end ≤ unit → stretches_from f unit end ≡ []
none_left f unit end l = rw (range_none unit (end - unit) (omega (arith, l))) (unfold filter stretches in refl)

-- what a step finds: none, or one and those behind it
module _ (rs rest : List Stretch) (r : Stretch) (first end : ℕ) (e : rs ≡ (pick ltb first end then r ∷ rest else [])) where
  pub found_none : end ≤ first → rs ≡ []
  found_none l = e ∙ if-false (ltb first end) (r ∷ rest) [] (le-ltb first end l)

  pub found-one : first < end → rs ≡ r ∷ rest
  found-one l = e ∙ if-true (ltb first end) (r ∷ rest) [] (lt-ltb first end l)

-- and fewer are left behind it: the walk takes a round for each stretch
pub fewer-left : (rs rest : List Stretch) (r : Stretch) → rs ≡ r ∷ rest → length rest < length rs
fewer-left rs rest r e =
    let l : length rs ≡ suc (length rest) = ap length e in
    omega (arith, l)

-- ---- counted

-- so many of the stretches are counted, and these are left
pub record Counted (rs : List Stretch) (count : ℕ) (left : List Stretch) : Type 0 where
  pub sum : count + length left ≡ length rs

pub counted_none : (rs : List Stretch) → Counted rs 0 rs
counted_none rs = record { sum = zero-add (length rs) }

module _ (rs : List Stretch) (count : ℕ) (left : List Stretch) (h : Counted rs count left) where
  pub counted-more : (rest : List Stretch) (r : Stretch) → left ≡ r ∷ rest → Counted rs (count + 1) rest
  counted-more rest r e =
      let l : length left ≡ suc (length rest) = ap length e in
      record { sum = omega (arith, h.sum, l) }

  pub counted-all : left ≡ [] → count ≡ length rs
  counted-all e =
      let l : length left ≡ 0 = ap length e in
      omega (arith, h.sum, l)

-- ---- written

-- a pair in two parts
pub pair_put : (s x t : List ℕ) (at first units : ℕ) → at + stretch_bytes ≤ length s → x ≡ patch s at (le_digits 8 first) → t ≡ patch x (at + 8) (le_digits 8 units)
    → t ≡ patch s at (encode_stretch (stretch first units))
unfolding encode_stretch
pair_put s x t at first units l e f = rw (f, e) (patch-patch s at (at + 8) (le_digits 8 first) (le_digits 8 units) (omega (arith, length-le_digits 8 first)) (omega (arith, length-le_digits 8 units, l)))

module _ (rs : List Stretch) (out : List ℕ) where
  -- the first i are written, and these are left
  pub record Written (i : ℕ) (left : List Stretch) (s : List ℕ) : Type 0 where
    pub rest : drop i rs ≡ left
    pub most : i ≤ length rs
    pub bytes : s ≡ patch out 0 (flat_map encode_stretch (take i rs))

  pub written_none : Written 0 rs out
  written_none = record { rest = refl; most = omega arith; bytes = sym (unfold flat_map in patch-none out 0) }

  -- the bytes of the first ones
  first-length : (i : ℕ) → i ≤ length rs → length (flat_map encode_stretch (take i rs)) ≡ stretch_bytes * i
  first-length i l = length-flat_map encode_stretch stretch_bytes (each-any length-encode_stretch (take i rs)) ∙ ap (λ (n : ℕ). stretch_bytes * n) (length-take-le i rs l)

  module _ (i : ℕ) (left : List Stretch) (s : List ℕ) (w : Written i left s) where
    module _ (r : Stretch) (rest : List Stretch) (e : left ≡ r ∷ rest) where
      -- there is one more
      pub written_below : i < length rs
      written_below =
          let l : length rs - i ≡ suc (length rest) = sym (length-drop i rs) ∙ ap length (w.rest ∙ e) in
          omega (arith, l)

      -- the first ones with it
      first_more : flat_map encode_stretch (take (i + 1) rs) ≡ flat_map encode_stretch (take i rs) ++ encode_stretch r
      unfolding flat_map
      first_more = rw (take-add i 1 rs, w.rest, e) (flat_map-append encode_stretch (take i rs) (r ∷ []) ∙ ap (λ (x : List ℕ). flat_map encode_stretch (take i rs) ++ x) (append-nil (encode_stretch r)))

      pub written-more : (t : List ℕ) → stretch_bytes * length rs ≤ length out → t ≡ patch s (stretch_bytes * i) (encode_stretch r) → Written (i + 1) rest t
      written-more t room q = record {
        rest = sym (drop-drop 1 i rs) ∙ ap (drop 1) (w.rest ∙ e);
        most = omega (arith, written_below);
        bytes = q ∙ rw (w.bytes, first_more) (patch-patch out 0 (stretch_bytes * i) (flat_map encode_stretch (take i rs)) (encode_stretch r)
            (omega (arith, first-length i w.most)) (omega (arith, length-encode_stretch r, written_below, room)));
      }

    -- all are
    pub written_all : left ≡ [] → s ≡ flat_map encode_stretch rs ++ drop (stretch_bytes * length rs) out
    unfolding patch
    written_all e =
        let l : length rs - i ≡ 0 = sym (length-drop i rs) ∙ ap length (w.rest ∙ e) in
        let n : i ≡ length rs = omega (arith, l, w.most) in
        let whole : take i rs ≡ rs = rw n (take_all (length rs) rs (omega arith)) in
        let len : 0 + length (flat_map encode_stretch rs) ≡ stretch_bytes * length rs = omega (arith, length-flat_map encode_stretch stretch_bytes (each-any length-encode_stretch rs)) in
        w.bytes ∙ rw (whole, len) refl

-- ---- the answer

-- where the walk ends
pub end_is : (first units size end begins : ℕ) → end ≡ min (first + units) begins → begins ≡ begun size unit_bytes → end ≡ min (first + units) (begun size unit_bytes)
end_is first units size end begins e b = rw (← b) e

module _ (gs : List Group) (object size first units : ℕ) (out : List ℕ) where
  -- the range goes past the last number
  pub lists-past : 18446744073709551615 - first < units → gives 19 0 out ≡ lists_file gs object first units out size
  unfolding lists_pairs range_wrong number_of
  lists-past l = sym (if-true _ _ _ (or_left (ltb most_number (first + units)) _ (lt-ltb most_number (first + units) (omega (arith, l)))))

  module _ (end count : ℕ) (e : end ≡ min (first + units) (begun size unit_bytes)) (c : count ≡ length (stretches_from (slotted gs object) first end)) where
    -- the output has no place for all
    pub lists-short : length out / 16 < count → gives 19 0 out ≡ lists_file gs object first units out size
    unfolding lists_pairs range_wrong number_of
    lists-short l = rw (clipped-stretches gs object size first units end e)
        (sym (if-true _ _ _ (or_right (ltb most_number (first + units)) _ (lt-ltb (length out) (stretch_bytes * length (stretches_from (slotted gs object) first end)) (omega (arith, l, c))))))

    -- the pairs
    pub lists-all : (filled : List ℕ) → first < 2 ^ 64 → units ≤ 18446744073709551615 - first → count ≤ length out / 16
        → filled ≡ flat_map encode_stretch (stretches_from (slotted gs object) first end) ++ drop (stretch_bytes * length (stretches_from (slotted gs object) first end)) out
        → gives 0 count filled ≡ lists_file gs object first units out size
    unfolding lists_pairs range_wrong
    lists-all filled b l m f = rw (clipped-stretches gs object size first units end e, f, c)
        (sym (if-false _ _ _ (or-none (ltb most_number (first + units)) (ltb (length out) (stretch_bytes * length (stretches_from (slotted gs object) first end)))
        (le-ltb most_number (first + units) (omega (arith, b, l))) (le-ltb (length out) (stretch_bytes * length (stretches_from (slotted gs object) first end)) (omega (arith, m, c))))))
      where
        or-none : (a b : Bool) → a ≡ false → b ≡ false → (a || b) ≡ false
        or-none a b p q = rw p q

-- ---- the card

module _ (head : List ℕ) (h : struct.Head) (d : head_of h ≡ decode_head head) where
  -- the book of groups that the head counts
  pub head-groups : (groups : List ℕ) → GroupsRight (decode_head head).groups groups → GroupsRight h.groups groups
  unfolding head_of
  head-groups groups r =
      let x : h.groups ≡ (decode_head head).groups = ap (λ (k : Head). k.groups) d in
      rw x r

  module _ (cards : List ℕ) (object : ℕ) (f : Option ℕ) (k : FoundFirst (card_is object) decode_card card_bytes h.cards cards f) (groups : List ℕ) (first units : ℕ) (out : List ℕ) where
    -- none is found
    pub list-none : f ≡ None → gives 3 0 out ≡ lists_object head cards groups object first units out
    unfolding lists_object found_in number_of
    list-none q =
        let z : none ≡ find (card_is object) (decode_book decode_card card_bytes (decode_head head).cards cards) = rw (q, head-cards head h d) at k.found in
        sym (maybe-none _ _ _ (sym z))

    -- one is
    pub list-some : (i size number count : ℕ) (filled : List ℕ) → f ≡ Some i → size ≡ (decode_card (part (card_bytes * i) card_bytes cards)).size
        → gives number count filled ≡ lists_file (groups_in h.groups groups) object first units out size
        → gives number count filled ≡ lists_object head cards groups object first units out
    unfolding lists_object found_in record_at head_of
    list-some i size number count filled q s e =
        let z : some (decode_card (part (card_bytes * i) card_bytes cards)) ≡ find (card_is object) (decode_book decode_card card_bytes (decode_head head).cards cards) = rw (q, head-cards head h d) at k.found in
        let x : h.groups ≡ (decode_head head).groups = ap (λ (m : Head). m.groups) d in
        e ∙ ap (λ (n : ℕ). lists_file (groups_in n groups) object first units out size) x
        ∙ ap (lists_file (groups_in (decode_head head).groups groups) object first units out) s
        ∙ sym (maybe-some _ _ _ (decode_card (part (card_bytes * i) card_bytes cards)) (sym z))
