-- Which groups are missing for the units of a change, and what is left when they are put in and the slots set.
-- Assumes nothing.
use mathlib.Core.Path.{◌≡◌, refl, sym, ap, ◌∙◌}
use mathlib.Core.Bool.{Bool, true, false}
use mathlib.Core.List.{List, map}
use Prim.Native.Nat.{ℕ, zero, suc, ◌+◌, ◌-◌, ◌*◌, ◌/◌, ◌^◌, ◌≤◌, ◌<◌}
use native.Mathlib.Decide.{dec_lt, ℕ_discrete}
use native.Mathlib.Nat.{zero-add}
use native.Mathlib.Omega.{arith}
use lib.ListN.{length, get_or, length-map}
use Rattle.rules.specs.Lists.{pick◌then◌else◌, any, given, insert}
use Rattle.rules.specs.Sizes.{group_units}
use Rattle.rules.specs.Bytes.{Bytes}
use Rattle.rules.specs.Group.{Group, group_bytes, encode_group, decode_group, group_fixed, absent_zero, group_before, empty_group}
use Rattle.rules.specs.Book.{encode_book}
use Rattle.rules.specs.Rewrite.{Rewritten}
use Rattle.rules.specs.Finish.{is_group, with_group, finished_groups}
use Rattle.rules.proofs.ListLaws.{clash, test-cases, if-true, if-false, and_left, and_right, find-given, find-passes, length-insert}
use Rattle.rules.proofs.BookLaws.{encode-whole, length-decode_book}
use Rattle.rules.proofs.GroupLaws.{encode-decode_group}
use Rattle.book.specs.Places.{record_at, found_in, group_is, FoundFirst}
use Rattle.std.proofs.Common.{Option, Some, None}
use Rattle.finish_books.specs.Groups.{groups_in, group_right, GroupsSay, AllThere, UnitsRight, StretchFrom, Gone, MissingOf, MissingFor, added, set_slots}
use Rattle.finish_books.proofs.GroupListLaws.{with-there, with-missing, with-keeps, with-has, missing-still, slots_with, finished-slots, slots_length}

-- ---- found or not

-- the group that was found stands at its place among the first n, and has the key
pub group-found : (n object number : ℕ) (s : List ℕ) (r : Option ℕ) (i : ℕ) → FoundFirst (group_is object number) decode_group group_bytes n s r → r ≡ Some i
    → (i < n) × (group_is object number (record_at decode_group group_bytes s i) ≡ true)
unfolding found_in
group-found n object number s r i h e = (
  h.within i e,
  find-passes (group_is object number) (groups_in n s) (record_at decode_group group_bytes s i) (sym h.found ∙ ap (found_in decode_group group_bytes s) e),
)

-- a group is there where one was found
found-there : (n object number : ℕ) (s : List ℕ) (r : Option ℕ) → FoundFirst (group_is object number) decode_group group_bytes n s r → any (group_is object number) (groups_in n s) ≡ given (found_in decode_group group_bytes s r)
found-there n object number s r h = sym (ap given h.found ∙ find-given (group_is object number) (groups_in n s))

-- where it is there, one is found
pub group-not-nothing : (n object number : ℕ) (s : List ℕ) (r : Option ℕ) → FoundFirst (group_is object number) decode_group group_bytes n s r → r ≡ None → any (group_is object number) (groups_in n s) ≡ true → ⊥
unfolding found_in given
group-not-nothing n object number s r h e a = clash (found-there n object number s r h ∙ ap (λ (f : Option ℕ). given (found_in decode_group group_bytes s f)) e) a

-- found: it is not missing
pub absent-no : (n object number : ℕ) (s : List ℕ) (r : Option ℕ) (i : ℕ) → FoundFirst (group_is object number) decode_group group_bytes n s r → r ≡ Some i
    → ◌≡◌ {A = ℕ} 0 (pick any (group_is object number) (groups_in n s) then 0 else 1)
unfolding found_in given
absent-no n object number s r i h e =
    sym (if-true (any (group_is object number) (groups_in n s)) 0 1 (found-there n object number s r h ∙ ap (λ (f : Option ℕ). given (found_in decode_group group_bytes s f)) e))

-- not found: it is
pub absent-yes : (n object number : ℕ) (s : List ℕ) (r : Option ℕ) → FoundFirst (group_is object number) decode_group group_bytes n s r → r ≡ None
    → ◌≡◌ {A = ℕ} 1 (pick any (group_is object number) (groups_in n s) then 0 else 1)
unfolding found_in given
absent-yes n object number s r h e =
    sym (if-false (any (group_is object number) (groups_in n s)) 0 1 (found-there n object number s r h ∙ ap (λ (f : Option ℕ). given (found_in decode_group group_bytes s f)) e))

-- at most one
pub absent-most : (b : Bool) (x : ℕ) → x ≡ (pick b then 0 else 1) → x ≤ 1
unfolding pick◌then◌else◌
absent-most true x e = omega arith
absent-most false x e = omega arith

-- ---- of two groups

module _ (object a b : ℕ) (gs : List Group) where
  -- a number that is zero where the group is there
  there-zero : (number x : ℕ) → x ≡ (pick any (group_is object number) gs then 0 else 1) → any (group_is object number) gs ≡ true → x ≡ 0
  there-zero number x e t = e ∙ if-true (any (group_is object number) gs) 0 1 t

  -- and one where it is missing
  missing-one : (number x : ℕ) → x ≡ (pick any (group_is object number) gs then 0 else 1) → any (group_is object number) gs ≡ false → x ≡ 1
  missing-one number x e t = e ∙ if-false (any (group_is object number) gs) 0 1 t

  -- none is missing
  gone-none : (number x : ℕ) → x ≡ 0 → Gone object number x gs
  gone-none number x e = record { few = omega arith; each = λ k l. absurd (omega arith) }

  -- one is
  gone_one : (number x : ℕ) → x ≡ 1 → any (group_is object number) gs ≡ false → Gone object number x gs
  gone_one number x e t = record { few = omega arith; each = λ k l. let z : number + k ≡ number = omega arith in rw z t }

  -- put in where it is missing
  added_none : (number x : ℕ) → x ≡ 0 → added object number x gs ≡ gs
  unfolding added
  added_none number x e = rw e refl

  -- one put in
  added-one : (number x : ℕ) → x ≡ 1 → added object number x gs ≡ insert group_before (empty_group object number) gs
  unfolding added
  added-one number x e = rw e refl

  -- a group that is missing or not, as it is counted
  one-counted : (number x : ℕ) → x ≡ (pick any (group_is object number) gs then 0 else 1) → Gone object number x gs × (added object number x gs ≡ with_group object number gs)
  unfolding is_group
  one-counted number x e =
      test-cases (Gone object number x gs × (added object number x gs ≡ with_group object number gs)) (any (group_is object number) gs)
      (λ t. (gone-none number x (there-zero number x e t), added_none number x (there-zero number x e t) ∙ sym (with-there object number gs t)))
      (λ t. (gone_one number x (missing-one number x e t) t, added-one number x (missing-one number x e t) ∙ sym (with-missing object number gs t)))

  -- both are one group
  pub both_one : (x : ℕ) → a ≡ b → x ≡ (pick any (group_is object a) gs then 0 else 1) → MissingOf object a b gs a x
  both_one x e q =
      let h = one-counted a x q in
      record {
        gone = h.0;
        least = omega arith;
        most = omega arith;
        both = h.1 ∙ sym (rw (← e) (with-there object a (with_group object a gs) (with-has object a gs)));
      }

  -- the first is there
  pub second-alone : (x y : ℕ) → a ≤ b → x ≡ (pick any (group_is object a) gs then 0 else 1) → x ≡ 0 → y ≡ (pick any (group_is object b) gs then 0 else 1) → MissingOf object a b gs b y
  unfolding is_group
  second-alone x y l p z q =
      let h = one-counted b y q in
      record {
        gone = h.0;
        least = l;
        most = omega arith;
        both = h.1 ∙ sym (ap (with_group object b) (test-cases (with_group object a gs ≡ gs) (any (group_is object a) gs) (λ t. with-there object a gs t) (λ t. absurd (omega (arith, missing-one a x p t)))));
      }

  -- the first is missing
  pub first-missing : (x y : ℕ) → (a ≡ b → ⊥) → a ≤ b → b ≤ a + 1 → x ≡ (pick any (group_is object a) gs then 0 else 1) → (x ≡ 0 → ⊥) → y ≡ (pick any (group_is object b) gs then 0 else 1)
      → MissingOf object a b gs a (1 + y)
  unfolding is_group added
  first-missing x y d l m p z q =
      let t : any (group_is object a) gs ≡ false = test-cases (any (group_is object a) gs ≡ false) (any (group_is object a) gs) (λ u. absurd (z (there-zero a x p u))) (λ u. u) in
      let n : b ≡ suc a = omega arith in
      let w : with_group object a gs ≡ insert group_before (empty_group object a) gs = with-missing object a gs t in
      test-cases (MissingOf object a b gs a (1 + y)) (any (group_is object b) gs)
      (λ u. let k : 1 + y ≡ 1 = omega (arith, there-zero b y q u) in
      record {
        gone = gone_one a (1 + y) k t;
        least = omega arith;
        most = l;
        both = added-one a (1 + y) k ∙ sym (with-there object b (with_group object a gs) (with-keeps object a b gs u) ∙ w);
      })
      (λ u. let k : 1 + y ≡ 2 = omega (arith, missing-one b y q u) in
      record {
        gone = record { few = omega arith; each = λ i s. either i s t u n k (ℕ_discrete i 0) };
        least = omega arith;
        most = l;
        both = rw k (sym (ap (with_group object b) w ∙ with-missing object b (insert group_before (empty_group object a) gs) (missing-still object a b gs d u)
            ∙ ap (λ (c : ℕ). insert group_before (empty_group object c) (insert group_before (empty_group object a) gs)) n));
      })
    where
      either : (i : ℕ) → i < 1 + y → any (group_is object a) gs ≡ false → any (group_is object b) gs ≡ false → b ≡ suc a → 1 + y ≡ 2 → Dec (i ≡ 0) → any (group_is object (a + i)) gs ≡ false
      either i s t u n k (yes e) = let v : a + i ≡ a = omega arith in rw v t
      either i s t u n k (no e) = let v : a + i ≡ b = omega arith in rw v u

-- ---- where the units behind each other begin

module _ (units : List ℕ) (object : ℕ) (gs : List Group) (h : UnitsRight object gs units) where
  -- there is one
  pub stretch-one : 0 < length units → length units < 2 → StretchFrom object gs units 0
  stretch-one p l = record {
    within = p;
    steps = λ k m. let z : k ≡ 0 = omega arith in rw z (omega arith);
    front = λ k m. absurd (omega arith);
  }

  -- those from the second on stand one behind the other
  behind-second : (k : ℕ) → 1 + k < length units → get_or units (1 + k) 0 ≡ get_or units 1 0 + k
  behind-second zero l = omega arith
  behind-second (suc k) l =
      let e : 1 + suc k ≡ suc (1 + k) = omega arith in
      let a : get_or units (suc (1 + k)) 0 ≡ suc (get_or units (1 + k) 0) = h.next (1 + k) (omega arith) (omega arith) in
      let b : get_or units (1 + k) 0 ≡ get_or units 1 0 + k = behind-second k (omega arith) in
      rw e (omega arith)

  -- the first stands in front of the second
  pub stretch-all : 1 < length units → get_or units 1 0 - get_or units 0 0 ≡ 1 → StretchFrom object gs units 0
  stretch-all p q =
      record {
        within = omega arith;
        steps = λ k m. steps k (rw (zero-add k) at m);
        front = λ k m. absurd (omega arith);
      }
    where
      steps : (k : ℕ) → k < length units → get_or units (0 + k) 0 ≡ get_or units 0 0 + k
      steps zero l = omega arith
      steps (suc k) l =
          let r : get_or units 0 0 < get_or units 1 0 = h.rises p in
          let e : 0 + suc k ≡ 1 + k = omega arith in
          let b : get_or units (1 + k) 0 ≡ get_or units 1 0 + k = behind-second k (omega arith) in
          rw e (omega arith)

  -- it lies further down
  pub stretch-second : 1 < length units → (get_or units 1 0 - get_or units 0 0 ≡ 1 → ⊥) → StretchFrom object gs units 1
  stretch-second p d =
      record {
        within = p;
        steps = λ k m. behind-second k m;
        front = λ k m. let z : k ≡ 0 = omega arith in rw z (h.apart p (λ e. d (omega arith)));
      }

-- ---- the groups of the units

module _ (object : ℕ) (units : List ℕ) (gs : List Group) (start : ℕ) (few : length units ≤ 18) (f : StretchFrom object gs units start) where
  -- the last
  last-is : get_or units (length units - 1) 0 ≡ get_or units start 0 + (length units - 1 - start)
  last-is =
      let l : start < length units = f.within in
      let e : start + (length units - 1 - start) ≡ length units - 1 = omega arith in
      rw e at (f.steps (length units - 1 - start) (omega arith))

  -- the group of the first and that of the last are one or neighbours
  pub near : (get_or units start 0 / 256 ≤ get_or units (length units - 1) 0 / 256) × (get_or units (length units - 1) 0 / 256 ≤ get_or units start 0 / 256 + 1)
  near = let e : get_or units (length units - 1) 0 ≡ get_or units start 0 + (length units - 1 - start) = last-is in (omega arith, omega arith)

  -- every unit's group is one of the two, or was there
  covered : (k : ℕ) → k < length units → any (is_group object (get_or units k 0 / group_units)) (with_group object (get_or units (length units - 1) 0 / group_units) (with_group object (get_or units start 0 / group_units) gs)) ≡ true
  covered k l = go (dec_lt k start)
    where
      a : ℕ
      a = get_or units start 0 / group_units

      b : ℕ
      b = get_or units (length units - 1) 0 / group_units

      first : (n : ℕ) → n ≡ a → any (is_group object n) (with_group object b (with_group object a gs)) ≡ true
      first n e = rw e (with-keeps object b a (with_group object a gs) (with-has object a gs))

      last : (n : ℕ) → n ≡ b → any (is_group object n) (with_group object b (with_group object a gs)) ≡ true
      last n e = rw e (with-has object b (with_group object a gs))

      either : Dec (get_or units k 0 / 256 ≡ get_or units start 0 / 256) → start ≤ k → any (is_group object (get_or units k 0 / group_units)) (with_group object b (with_group object a gs)) ≡ true
      either (yes e) m = first (get_or units k 0 / group_units) e
      either (no d) m =
          let e : get_or units (length units - 1) 0 ≡ get_or units start 0 + (length units - 1 - start) = last-is in
          let z : start + (k - start) ≡ k = omega arith in
          let u : get_or units k 0 ≡ get_or units start 0 + (k - start) = rw z at (f.steps (k - start) (omega arith)) in
          last (get_or units k 0 / group_units) (omega arith)

      go : Dec (k < start) → any (is_group object (get_or units k 0 / group_units)) (with_group object b (with_group object a gs)) ≡ true
      go (yes m) = with-keeps object b (get_or units k 0 / group_units) (with_group object a gs) (with-keeps object a (get_or units k 0 / group_units) gs (unfold is_group in f.front k m))
      go (no m) = either (ℕ_discrete (get_or units k 0 / 256) (get_or units start 0 / 256)) (omega arith)

  -- those of the two that are missing are missing for the units
  pub missing-units : (number count : ℕ) → get_or units (length units - 1) 0 < 2 ^ 64 → MissingOf object (get_or units start 0 / 256) (get_or units (length units - 1) 0 / 256) gs number count
      → MissingFor object units gs number count
  unfolding is_group
  missing-units number count w m = record {
    gone = m.gone;
    small = omega (arith, m.most, w);
    there = record { each = λ k l. rw m.both (covered k l) };
    same = λ crcs e. rw m.both (slots_with object units crcs (length units - 1) (with_group object (get_or units start 0 / group_units) gs) (omega (arith, f.within)) e ∙ slots_with object units crcs start gs f.within e);
  }

-- no units
pub missing-nothing : (object : ℕ) (units : List ℕ) (gs : List Group) → length units ≡ 0 → MissingFor object units gs 0 0
unfolding added
missing-nothing object units gs e = record {
  gone = record { few = omega arith; each = λ k l. absurd (omega arith) };
  small = omega arith;
  there = record { each = λ k l. absurd (omega arith) };
  same = λ crcs q. refl;
}

-- ---- how many there are then

-- so many more
length-added : (object number count : ℕ) (gs : List Group) → length (added object number count gs) ≡ length gs + count
unfolding added
length-added object number zero gs = omega arith
length-added object number (suc k) gs =
    let e : length (insert group_before (empty_group object number) gs) ≡ suc (length gs) = length-insert group_before (empty_group object number) gs in
    length-added object (suc number) k (insert group_before (empty_group object number) gs) ∙ omega arith

module _ (object number count n : ℕ) (units s : List ℕ) (m : MissingFor object units (groups_in n s) number count) where
  -- the groups that are left
  pub slots-count : (crcs : List ℕ) → length units ≡ length crcs → length (set_slots object units crcs (groups_in n s)) ≡ n + count
  unfolding is_group
  slots-count crcs e =
      sym (ap length (m.same crcs e)) ∙ slots_length object units crcs (added object number count (groups_in n s)) m.there.each
      ∙ length-added object number count (groups_in n s) ∙ ap (λ (k : ℕ). k + count) (length-decode_book decode_group group_bytes n s)

  -- and as the rules have them
  pub finished-count : (rs : List Rewritten) → map (λ r. r.unit) rs ≡ units → length (finished_groups object rs (groups_in n s)) ≡ n + count
  finished-count rs e =
      let l : length (map (λ (r : Rewritten). r.unit) rs) ≡ length (map (λ (r : Rewritten). r.checksum) rs) = length-map rs (λ r. r.unit) ∙ sym (length-map rs (λ r. r.checksum)) in
      ap length (finished-slots object rs (groups_in n s)) ∙ rw e (slots-count (map (λ r. r.checksum) rs) (rw e at l))

  -- there is room for the missing ones where there is for all
  pub room-added : (crcs : List ℕ) → length units ≡ length crcs → 1073 * length (set_slots object units crcs (groups_in n s)) ≤ length s → 1073 * (n + count) ≤ length s
  room-added crcs e l = rw (slots-count crcs e) at l

-- ---- the book that is left

-- a book that says groups is the one that is written for them
said-book : (n size : ℕ) (gs : List Group) (t : List ℕ) → GroupsSay n size gs t → Bytes t → t ≡ encode_book encode_group size gs
said-book n size gs t h b =
    sym (rw (h.bytes, h.says) at (encode-whole encode_group decode_group group_bytes n group_right t
    (λ p e c g. encode-decode_group p e c (and_left (group_fixed p) (absent_zero p) g) (and_right (group_fixed p) (absent_zero p) g))
    (record { places = h.right.places; zeros = h.right.zeros; records = h.right.fixed }) b))

-- with the missing groups put in every unit has its group
pub there-said : (object number count n k size : ℕ) (units s t : List ℕ) → MissingFor object units (groups_in n s) number count → GroupsSay k size (added object number count (groups_in n s)) t
    → AllThere object units (groups_in k t)
there-said object number count n k size units s t m h = rw h.says m.there

-- the missing groups put in and the slots set leave the finished groups
pub groups-finished : (object number count n k size : ℕ) (units crcs s t u : List ℕ) → MissingFor object units (groups_in n s) number count → length units ≡ length crcs
    → GroupsSay k size (added object number count (groups_in n s)) t → GroupsSay k (length t) (set_slots object units crcs (groups_in k t)) u → Bytes u
    → (rs : List Rewritten) → map (λ r. r.unit) rs ≡ units → map (λ r. r.checksum) rs ≡ crcs → u ≡ encode_book encode_group size (finished_groups object rs (groups_in n s))
groups-finished object number count n k size units crcs s t u m e a h b rs p q =
    said-book k (length t) (set_slots object units crcs (groups_in k t)) u h b
    ∙ rw (a.bytes, a.says, m.same crcs e) (ap (encode_book encode_group size) (sym (finished-slots object rs (groups_in n s) ∙ rw (p, q) refl)))
