-- A slot set in the group book where its group stands, and the slots of all units one after another.
-- Assumes nothing.
use mathlib.Core.Path.{◌≡◌, refl, sym, ap, ◌∙◌}
use mathlib.Core.Bool.{true, false}
use mathlib.Core.List.{List, [], ◌∷◌, map}
use mathlib.Core.Option.{some}
use Prim.Native.Nat.{ℕ, ◌+◌, ◌*◌, ◌/◌, ◌%◌, ◌^◌, ◌≤◌, ◌<◌}
use native.Mathlib.Omega.{arith}
use lib.ListN.{length, get_or, set, take}
use lib.Seq.{take_all}
use Rattle.rules.specs.Lists.{any, ascending}
use Rattle.rules.specs.Sizes.{group_units}
use Rattle.rules.specs.Bytes.{Bytes, part, patch}
use Rattle.rules.specs.Group.{Group, group_bytes, encode_group, decode_group, group_fixed, absent_zero, group_before, set_checksum_slot}
use Rattle.rules.specs.Finish.{is_group, set_slot, finished_groups}
use Rattle.rules.specs.Rewrite.{Rewritten}
use Rattle.rules.proofs.ListLaws.{clash, test-cases, and_left, and_right, and_intro, all-at, any_at, pair_before-not}
use Rattle.rules.proofs.ByteLaws.{length_part, bytes-part, length-patch, part-patch}
use Rattle.rules.proofs.BookLaws.{Whole, length-pieces, get_or-pieces, length-decode_book, get_or-decode_book}
use Rattle.rules.proofs.ShiftLaws.{decode_book-set}
use Rattle.rules.proofs.GroupLaws.{GroupFits, encode-decode_group, decode-encode_group, fits-decode_group, length-encode_group, fixed-encode_group, absent-encode_group}
use Rattle.history.proofs.GroupsAfter.{ascending-finished}
use Rattle.book.specs.Places.{record_at, group_is}
use Rattle.finish_books.specs.Groups.{groups_in, group_right, GroupsRight, GroupsSay, AllThere, Gone, PlaceKnown, added, set_slots}
use Rattle.finish_books.proofs.PutLaws.{put_whole, map-one}
use Rattle.finish_books.proofs.SlotLaws.{fits-slot}
use Rattle.finish_books.proofs.GroupListLaws.{before-trans, is-group, with-there, slot_set, set_is, slots-none, slots-more, slots-keep}

-- the bytes of a group of a book that keeps its rules are right
pub right-at : (n i : ℕ) (s : List ℕ) → GroupsRight n s → i < n → group_right (part (1073 * i) group_bytes s) ≡ true
right-at n i s r l =
    rw (get_or-pieces group_bytes n s i l) at (all-at group_right _ r.fixed i [] (rw (length-pieces group_bytes n s) l))

-- a group behind the one of a key is not of that key
other-group : (object number : ℕ) (g h : Group) → is_group object number g ≡ true → group_before g h ≡ true → is_group object number h ≡ false
unfolding group_before
other-group object number g h p q =
    test-cases (is_group object number h ≡ false) (is_group object number h)
    (λ t. let a = is-group object number g p in
    let b = is-group object number h t in
    absurd (clash (pair_before-not object number) (rw (a.0, a.1, b.0, b.1) at q)))
    (λ t. t)

-- a slot set leaves the order
order-set : (object unit crc : ℕ) (gs : List Group) → ascending group_before gs ≡ true → ascending group_before (set_slot object unit crc gs) ≡ true
unfolding finished_groups
order-set object unit crc gs o =
    let r : Rewritten = record { unit = unit; bytes = []; checksum = crc; kept = []; blocks = []; new = []; superseded = [] } in
    ascending-finished object (r ∷ []) gs o

-- where its group stands, that one alone is changed
set-at-place : (object unit crc : ℕ) (gs : List Group) (i : ℕ) (d : Group) → ascending group_before gs ≡ true → i < length gs → is_group object (unit / group_units) (get_or gs i d) ≡ true
    → set_slot object unit crc gs ≡ set gs i (set_checksum_slot (get_or gs i d) (unit % group_units) (some crc))
unfolding slot_set
set-at-place object unit crc gs i d o l t =
    set_is object unit crc gs
    ∙ ap (map (slot_set object unit crc)) (with-there object (unit / group_units) gs (any_at (is_group object (unit / group_units)) gs i d l t))
    ∙ map-one group_before (is_group object (unit / group_units)) (λ g. set_checksum_slot g (unit % group_units) (some crc)) before-trans (other-group object (unit / group_units)) gs i d o l t

module _ (object unit crc n size i : ℕ) (gs : List Group) (s t : List ℕ) (h : GroupsSay n size gs s) (b : Bytes s) (c : crc < 2 ^ 32) (l : i < n)
    (k : group_is object (unit / group_units) (record_at decode_group group_bytes s i) ≡ true)
    (q : t ≡ patch s (1073 * i) (encode_group (set_checksum_slot (decode_group (part (1073 * i) group_bytes s)) (unit % group_units) (some crc)))) where
  -- the group that stands there, with its slot set
  new : Group
  new = set_checksum_slot (decode_group (part (1073 * i) group_bytes s)) (unit % group_units) (some crc)

  -- there is room for it
  room : 1073 * i + 1073 ≤ length s
  room = omega (arith, h.right.places)

  -- it is in range
  fits-new : GroupFits new
  unfolding new
  fits-new =
      fits-slot (decode_group (part (1073 * i) group_bytes s)) (unit % group_units) crc c
      (fits-decode_group (part (1073 * i) group_bytes s) (length_part s (1073 * i) group_bytes room) (bytes-part s (1073 * i) group_bytes b))

  -- its bytes have the width
  wide-new : length (encode_group new) ≡ group_bytes
  wide-new = length-encode_group new fits-new.slots

  -- and are right
  right_new : group_right (encode_group new) ≡ true
  right_new = and_intro (group_fixed (encode_group new)) (absent_zero (encode_group new)) (fixed-encode_group new) (absent-encode_group new fits-new)

  -- the groups are those with the slot set
  says-new : groups_in n t ≡ set_slot object unit crc gs
  unfolding new record_at is_group
  says-new =
      let p : List ℕ = part (1073 * i) group_bytes s in
      let d : Group = decode_group p in
      let a : get_or gs i d ≡ d = rw (← h.says) (get_or-decode_book decode_group group_bytes n s i d l) in
      let m : i < length gs = rw (← h.says, length-decode_book decode_group group_bytes n s) l in
      let o : ascending group_before gs ≡ true = rw h.says at h.right.order in
      ap (groups_in n) q ∙ decode_book-set decode_group group_bytes n i s (encode_group new) l wide-new h.right.places
      ∙ rw (h.says, decode-encode_group new fits-new) (sym (set-at-place object unit crc gs i d o m (rw a k) ∙ rw a refl))

  -- the book then says the groups with the slot set
  pub step-say : GroupsSay n size (set_slot object unit crc gs) t
  unfolding new
  step-say =
      let w : Whole group_bytes n group_right t =
      rw q (put_whole encode_group decode_group group_bytes group_right (λ p e f g. encode-decode_group p e f (and_left (group_fixed p) (absent_zero p) g) (and_right (group_fixed p) (absent_zero p) g)) n i s (encode_group new)
      (record { places = h.right.places; zeros = h.right.zeros; records = h.right.fixed }) l wide-new right_new) in
      record {
        bytes = ap length q ∙ length-patch s (1073 * i) (encode_group new) (omega (arith, room, wide-new)) ∙ h.bytes;
        right = record {
          places = w.places;
          order = rw says-new (order-set object unit crc gs (rw h.says at h.right.order));
          zeros = w.zeros;
          fixed = w.records;
        };
        says = says-new;
      }

  -- and the place is known to be that of the unit's group
  pub step-known : PlaceKnown object (unit / group_units) n i t
  unfolding new record_at set_checksum_slot
  step-known = record {
    known = λ m. rw (q, part-patch s (1073 * i) group_bytes (encode_group new) wide-new room, decode-encode_group new fits-new) k;
  }

-- ---- the loop over the units

-- no slot is set yet
pub steps-none : (object n : ℕ) (units crcs s : List ℕ) → GroupsRight n s → GroupsSay n (length s) (set_slots object (take 0 units) (take 0 crcs) (groups_in n s)) s
steps-none object n units crcs s r = record { bytes = refl; right = r; says = sym (slots-none object units crcs (groups_in n s)) }

-- no place is known yet
pub place_none : (object number n : ℕ) (s : List ℕ) → PlaceKnown object number n n s
place_none object number n s = record { known = λ l. absurd (omega arith) }

module _ (object n size i : ℕ) (units crcs s t : List ℕ) (e : length units ≡ length crcs) (l : i < length units) (h : GroupsSay n size (set_slots object (take i units) (take i crcs) (groups_in n s)) t) where
  -- the next unit's group is there
  pub next-there : AllThere object units (groups_in n s) → any (group_is object (get_or units i 0 / 256)) (groups_in n t) ≡ true
  unfolding is_group
  next-there a = rw h.says (slots-keep object (take i units) (take i crcs) (get_or units i 0 / group_units) (groups_in n s) (a.each i l))

  module _ (p : ℕ) (u : List ℕ) (b : Bytes t) (c : get_or crcs i 0 < 2 ^ 32) (k : (p < n) × (group_is object (get_or units i 0 / 256) (record_at decode_group group_bytes t p) ≡ true))
      (q : u ≡ patch t (1073 * p) (encode_group (set_checksum_slot (decode_group (part (1073 * p) group_bytes t)) (get_or units i 0 % 256) (some (get_or crcs i 0))))) where
    -- its slot is set
    pub steps-more : GroupsSay n size (set_slots object (take (i + 1) units) (take (i + 1) crcs) (groups_in n s)) u
    steps-more =
        rw (slots-more object units crcs i (groups_in n s) e l)
        (step-say object (get_or units i 0) (get_or crcs i 0) n size p (set_slots object (take i units) (take i crcs) (groups_in n s)) t u h b c k.0 k.1 q)

    -- and the place of its group known
    pub steps-known : PlaceKnown object (get_or units i 0 / 256) n p u
    steps-known = step-known object (get_or units i 0) (get_or crcs i 0) n size p (set_slots object (take i units) (take i crcs) (groups_in n s)) t u h b c k.0 k.1 q

-- every slot is set
pub steps_all : (object n size i : ℕ) (units crcs s t : List ℕ) → GroupsSay n size (set_slots object (take i units) (take i crcs) (groups_in n s)) t → length units ≡ length crcs → length units ≤ i
    → GroupsSay n size (set_slots object units crcs (groups_in n s)) t
steps_all object n size i units crcs s t h e l = rw (take_all i units l, take_all i crcs (rw e at l)) at h

-- a group whose place is known
pub place_kept : (object number wanted n place : ℕ) (s : List ℕ) → PlaceKnown object number n place s → wanted ≡ number → place < n
    → (place < n) × (group_is object wanted (record_at decode_group group_bytes s place) ≡ true)
place_kept object number wanted n place s h e l = (l, rw e (h.known l))

-- ---- groups put in by their count

-- none
pub count_none : (object number count n : ℕ) (s : List ℕ) → GroupsRight n s → count ≡ 0 → GroupsSay (n + count) (length s) (added object number count (groups_in n s)) s
unfolding added
count_none object number count n s r e = let z : n + 0 ≡ n = omega arith in rw (e, z) (record { bytes = refl; right = r; says = refl })

-- so many
pub count_is : (object number count k n size : ℕ) (gs : List Group) (t : List ℕ) → count ≡ k → GroupsSay (n + k) size (added object number k gs) t → GroupsSay (n + count) size (added object number count gs) t
count_is object number count k n size gs t e h = rw e h

-- the first that is missing
pub first-gone : (object number count : ℕ) (gs : List Group) → Gone object number count gs → 0 < count → any (group_is object number) gs ≡ false
first-gone object number count gs h l = let z : number + 0 ≡ number = omega arith in rw z at (h.each 0 l)

-- they are at most two
pub gone-two : (object number count : ℕ) (gs : List Group) → Gone object number count gs → (count ≡ 0 → ⊥) → (count ≡ 1 → ⊥) → count ≡ 2
gone-two object number count gs h a b = omega (arith, h.few)
