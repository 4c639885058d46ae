-- The group book that a change leaves: each rewritten unit's slot has its checksum, every other slot is as before, and the book stays in order and in range.
-- Assumes nothing.
use mathlib.Core.Path.{◌≡◌, refl, sym, ap, ◌∙◌}
use mathlib.Core.List.{List, [], ◌∷◌, head?, Memᴰ}
use mathlib.Core.Bool.{Bool, true, false, ◌||◌}
use mathlib.Core.Option.{Option, none, some}
use Prim.Native.Nat.{ℕ, ◌/◌, ◌%◌, ◌^◌, ◌<◌}
use native.Mathlib.Decide.{ℕ_discrete}
use native.Mathlib.Omega.{arith}
use lib.Dec.{eqb, ltb}
use lib.ListN.{length, get_or, set, replicate, length-set, length-replicate, get_or-replicate}
use lib.Seq.{get_or-set_same, get_or-set_other}
use borrow.Author.Tests.{eqb-true, eq-eqb, ltb-true, lt-ltb}
use Rattle.rules.specs.Lists.{pick◌then◌else◌, maybe, given, any, filter, find, insert, ascending}
use Rattle.rules.specs.Sizes.{group_units}
use Rattle.rules.specs.Group.{Group, group_before, empty_group, checksum_slot, set_checksum_slot}
use Rattle.rules.specs.Store.{Volume}
use Rattle.rules.specs.Inspect.{checksum_of}
use Rattle.rules.specs.Rewrite.{Rewritten}
use Rattle.rules.specs.Finish.{is_group, with_group, set_slot, finished_groups}
use Rattle.rules.proofs.ListLaws.{clash, test-cases, if-true, if-false, if-cases, and_left, and_right, and_intro, or_left, or_right, find_none, find-given, find-passes, find-mem, all_of, none-at, ascending-tail, ascending-insert, Each, each_none, each_more, each_of, each_at, each-insert, each_weaken, each_map, each_all, ascending-all, pair_before-total, get_or-same}
use Rattle.rules.proofs.EnterLaws.{filter-insert-yes, filter-insert-no}
use Rattle.rules.proofs.GroupLaws.{GroupFits, slot_value}
use Rattle.history.proofs.MoreLists.{ascending-through, each-mem, find-through}

-- the slot of a file's unit in a list of groups
unfoldable pub slot_in : List Group → ℕ → ℕ → Option ℕ
slot_in gs object unit = maybe none (λ g. checksum_slot g (unit % group_units)) (find (is_group object (unit / group_units)) gs)

-- it is what a volume with these groups has there
pub checksum-slot : (v : Volume) (object unit : ℕ) → checksum_of v object unit ≡ slot_in v.books.groups object unit
unfolding checksum_of slot_in is_group
checksum-slot v object unit = refl

-- ---- a group added if missing

-- the group is this one
is-group : (object number : ℕ) (g : Group) → is_group object number g ≡ true → (g.object ≡ object) × (g.number ≡ number)
unfolding is_group
is-group object number g h = (
  eqb-true g.object object (and_left (eqb g.object object) (eqb g.number number) h),
  eqb-true g.number number (and_right (eqb g.object object) (eqb g.number number) h),
)

-- a group with this object and number is
group-is : (object number : ℕ) (g : Group) → g.object ≡ object → g.number ≡ number → is_group object number g ≡ true
unfolding is_group
group-is object number g p q = and_intro (eqb g.object object) (eqb g.number number) (eq-eqb g.object object p) (eq-eqb g.number number q)

-- a group with another object or number is not
group-not : (object number : ℕ) (g : Group) → ((g.object ≡ object) → (g.number ≡ number) → ⊥) → is_group object number g ≡ false
group-not object number g d =
    test-cases (is_group object number g ≡ false) (is_group object number g) (λ e. let h = is-group object number g e in absurd (d h.0 h.1)) (λ e. e)

-- an empty group has its slots
wide-empty : (object number : ℕ) → length (empty_group object number).slots ≡ group_units
unfolding empty_group
wide-empty object number = length-replicate {A = Option ℕ} group_units none

-- it is in range where its object and number are
fits-empty : (object number : ℕ) → object < 2 ^ 64 → number < 2 ^ 64 → GroupFits (empty_group object number)
unfolding empty_group
fits-empty object number a b = record {
  object = a;
  number = b;
  slots = length-replicate {A = Option ℕ} group_units none;
  values = each_of (replicate group_units none) none (λ i l. rw (get_or-replicate {A = Option ℕ} group_units i none none (rw (length-replicate {A = Option ℕ} group_units none) at l)) (unfold maybe in omega arith));
}

-- an empty group's slots are empty
slot-empty : (object number n : ℕ) → checksum_slot (empty_group object number) n ≡ none
unfolding checksum_slot empty_group
slot-empty object number n = get_or-same {A = Option ℕ} 256 none n

module _ (object number : ℕ) (gs : List Group) where
  -- where it is missing, the added group alone is found
  find-added : any (is_group object number) gs ≡ false → find (is_group object number) (with_group object number gs) ≡ some (empty_group object number)
  unfolding with_group find
  find-added n =
      rw (if-false (any (is_group object number) gs) gs (insert group_before (empty_group object number) gs) n)
      (ap head? (filter-insert-yes group_before (is_group object number) (empty_group object number) gs (unfold empty_group in group-is object number (empty_group object number) refl refl) n))

  -- where it is there, nothing is added
  with-there : any (is_group object number) gs ≡ true → with_group object number gs ≡ gs
  unfolding with_group
  with-there h = if-true (any (is_group object number) gs) gs (insert group_before (empty_group object number) gs) h

  -- another group is found as before
  find-other : (o m : ℕ) → (object ≡ o → number ≡ m → ⊥) → find (is_group o m) (with_group object number gs) ≡ find (is_group o m) gs
  unfolding with_group find
  find-other o m d =
      if-cases (λ (hs : List Group). head? (filter (is_group o m) hs) ≡ head? (filter (is_group o m) gs)) (any (is_group object number) gs) gs (insert group_before (empty_group object number) gs)
      (λ e. refl)
      (λ e. ap head? (filter-insert-no group_before (is_group o m) (empty_group object number) gs (unfold empty_group in group-not o m (empty_group object number) d)))

  -- every slot is as before
  slot-with : (o unit : ℕ) → slot_in (with_group object number gs) o unit ≡ slot_in gs o unit
  unfolding slot_in
  slot-with o unit = either (ℕ_discrete object o) (ℕ_discrete number (unit / group_units))
    where
      S : Option Group → Option ℕ
      S x = maybe none (λ g. checksum_slot g (unit % group_units)) x

      added : object ≡ o → number ≡ unit / group_units → S (find (is_group o (unit / group_units)) (with_group object number gs)) ≡ S (find (is_group o (unit / group_units)) gs)
      added p q =
          test-cases (S (find (is_group o (unit / group_units)) (with_group object number gs)) ≡ S (find (is_group o (unit / group_units)) gs)) (any (is_group object number) gs)
          (λ e. ap (λ (hs : List Group). S (find (is_group o (unit / group_units)) hs)) (with-there e))
          (λ e. rw (← p, ← q, find-added e, find_none (is_group object number) gs e) (unfold maybe in slot-empty object number (unit % group_units)))

      either : Dec (object ≡ o) → Dec (number ≡ unit / group_units) → S (find (is_group o (unit / group_units)) (with_group object number gs)) ≡ S (find (is_group o (unit / group_units)) gs)
      either (yes p) (yes q) = added p q
      either (yes p) (no d) = ap S (find-other o (unit / group_units) (λ x y. d y))
      either (no d) (yes q) = ap S (find-other o (unit / group_units) (λ x y. d x))
      either (no d) (no e) = ap S (find-other o (unit / group_units) (λ x y. d x))

  -- the group is there then
  with-has : given (find (is_group object number) (with_group object number gs)) ≡ true
  with-has =
      test-cases (given (find (is_group object number) (with_group object number gs)) ≡ true) (any (is_group object number) gs)
      (λ e. rw (with-there e) (find-given (is_group object number) gs ∙ e)) (λ e. rw (find-added e) (unfold given in refl))

  -- what holds of each group and of the empty one holds of each
  each-with : (P : Group → Type 0) → P (empty_group object number) → Each P gs → Each P (with_group object number gs)
  unfolding with_group
  each-with P p h = if-cases (λ (hs : List Group). Each P hs) (any (is_group object number) gs) gs _ (λ e. h) (λ e. each-insert group_before (empty_group object number) gs p h)

  -- the groups stay in order
  ascending-with : ascending group_before gs ≡ true → ascending group_before (with_group object number gs) ≡ true
  unfolding with_group
  ascending-with a =
      if-cases (λ (hs : List Group). ascending group_before hs ≡ true) (any (is_group object number) gs) gs _ (λ e. a)
      (λ e. ascending-insert group_before (empty_group object number) gs a
      (all_of (λ g. group_before g (empty_group object number) || group_before (empty_group object number) g) gs (empty_group object number)
      (λ i l. apart (get_or gs i (empty_group object number)) (none-at (is_group object number) gs e i (empty_group object number) l))))
    where
      apart : (g : Group) → is_group object number g ≡ false → (group_before g (empty_group object number) || group_before (empty_group object number) g) ≡ true
      apart g n =
          test-cases ((group_before g (empty_group object number) || group_before (empty_group object number) g) ≡ true) (group_before g (empty_group object number))
          (λ e. or_left (group_before g (empty_group object number)) (group_before (empty_group object number) g) e)
          (λ e. or_right (group_before g (empty_group object number)) (group_before (empty_group object number) g)
          (unfold group_before empty_group in pair_before-total g.object g.number object number (unfold group_before empty_group in e) (λ p q. clash n (group-is object number g p q))))

-- ---- a slot set

-- a group with its slot set, where it is the unit's
unfoldable slot_set : ℕ → ℕ → ℕ → Group → Group
slot_set object unit crc g = pick is_group object (unit / group_units) g then set_checksum_slot g (unit % group_units) (some crc) else g

-- nothing is not something
given-none : {x : Option Group} → x ≡ none → given x ≡ false
unfolding given
given-none e = ap given e

module _ (object unit crc : ℕ) where
  -- its object and number stay
  key_set : (g : Group) → ((slot_set object unit crc g).object ≡ g.object) × ((slot_set object unit crc g).number ≡ g.number)
  unfolding slot_set set_checksum_slot
  key_set g = if-cases (λ (h : Group). (h.object ≡ g.object) × (h.number ≡ g.number)) (is_group object (unit / group_units) g) _ g (λ e. (refl, refl)) (λ e. (refl, refl))

  -- so every test of them gives the same
  is_set : (o m : ℕ) (g : Group) → is_group o m (slot_set object unit crc g) ≡ is_group o m g
  unfolding is_group
  is_set o m g = rw ((key_set g).0, (key_set g).1) refl

  -- the order of two groups stays
  before-set : (g h : Group) → group_before (slot_set object unit crc g) (slot_set object unit crc h) ≡ group_before g h
  unfolding group_before
  before-set g h = rw ((key_set g).0, (key_set g).1, (key_set h).0, (key_set h).1) refl

  -- in the unit's group its slot has the checksum
  slot-mine : (g : Group) → is_group object (unit / group_units) g ≡ true → length g.slots ≡ group_units → checksum_slot (slot_set object unit crc g) (unit % group_units) ≡ some crc
  unfolding slot_set checksum_slot set_checksum_slot
  slot-mine g p k =
      let z : unit % group_units < group_units = omega arith in
      rw (if-true (is_group object (unit / group_units) g) (set_checksum_slot g (unit % group_units) (some crc)) g p)
      (get_or-set_same g.slots (unit % group_units) (some crc) none (rw k z))

  -- in a group every other slot is as before
  slot-one : (o u : ℕ) → (o ≡ object → u ≡ unit → ⊥) → (g : Group) → is_group o (u / group_units) g ≡ true → checksum_slot (slot_set object unit crc g) (u % group_units) ≡ checksum_slot g (u % group_units)
  unfolding slot_set checksum_slot set_checksum_slot
  slot-one o u d g p =
      if-cases (λ (h : Group). checksum_slot h (u % group_units) ≡ checksum_slot g (u % group_units)) (is_group object (unit / group_units) g) _ g
      (λ e. let a = is-group o (u / group_units) g p in
      let b = is-group object (unit / group_units) g e in
      let q : o ≡ object = sym a.0 ∙ b.0 in
      let r : u / group_units ≡ unit / group_units = sym a.1 ∙ b.1 in
      get_or-set_other g.slots (unit % group_units) (u % group_units) (some crc) none (λ m. d q (omega arith)))
      (λ e. refl)

  -- a group stays in range
  fits_one : crc < 2 ^ 32 → (g : Group) → GroupFits g → GroupFits (slot_set object unit crc g)
  unfolding slot_set set_checksum_slot
  fits_one c g f =
      if-cases GroupFits (is_group object (unit / group_units) g) _ g
      (λ e. record {
        object = f.object;
        number = f.number;
        slots = length-set g.slots (unit % group_units) (some crc) ∙ f.slots;
        values = each_of (set g.slots (unit % group_units) (some crc)) none (λ i l. value i (rw (length-set g.slots (unit % group_units) (some crc)) at l) (ℕ_discrete i (unit % group_units)));
      })
      (λ e. f)
    where
      value : (i : ℕ) → i < length g.slots → Dec (i ≡ unit % group_units) → slot_value (get_or (set g.slots (unit % group_units) (some crc)) i none) < 2 ^ 32
      value i l (yes e) = rw (e, get_or-set_same g.slots (unit % group_units) (some crc) none (rw e at l)) (unfold maybe in c)
      value i l (no d) = rw (get_or-set_other g.slots (unit % group_units) i (some crc) none d) (each_at f.values i none l)

  module _ (gs : List Group) where
    -- the group that is found is the one that was, put through
    find-set : (o m : ℕ) → find (is_group o m) (set_slot object unit crc gs) ≡ maybe none (λ g. some (slot_set object unit crc g)) (find (is_group o m) (with_group object (unit / group_units) gs))
    unfolding set_slot slot_set
    find-set o m = find-through (is_group o m) (slot_set object unit crc) (is_set o m) (with_group object (unit / group_units) gs)

    -- the unit's slot has the checksum
    slot-set-same : Each (λ g. length g.slots ≡ group_units) gs → slot_in (set_slot object unit crc gs) object unit ≡ some crc
    unfolding slot_in maybe
    slot-set-same h = go (find (is_group object (unit / group_units)) hs) refl (with-has object (unit / group_units) gs)
      where
        hs : List Group
        hs = with_group object (unit / group_units) gs

        fits : Each (λ g. length g.slots ≡ group_units) hs
        fits = each-with object (unit / group_units) gs (λ g. length g.slots ≡ group_units) (wide-empty object (unit / group_units)) h

        go : (x : Option Group) → find (is_group object (unit / group_units)) hs ≡ x → given (find (is_group object (unit / group_units)) hs) ≡ true
            → maybe none (λ g. checksum_slot g (unit % group_units)) (find (is_group object (unit / group_units)) (set_slot object unit crc gs)) ≡ some crc
        go none e y = absurd (clash (given-none e) y)
        go (some g) e y =
            let k : length g.slots ≡ group_units = each-mem fits (find-mem (is_group object (unit / group_units)) hs g e) in
            rw (find-set object (unit / group_units), e) (slot-mine g (find-passes (is_group object (unit / group_units)) hs g e) k)

    -- every other is as before
    slot-set-other : (o u : ℕ) → (o ≡ object → u ≡ unit → ⊥) → slot_in (set_slot object unit crc gs) o u ≡ slot_in gs o u
    slot-set-other o u d = go (find (is_group o (u / group_units)) hs) refl ∙ slot-with object (unit / group_units) gs o u
      where
        hs : List Group
        hs = with_group object (unit / group_units) gs

        go : (x : Option Group) → find (is_group o (u / group_units)) hs ≡ x → slot_in (set_slot object unit crc gs) o u ≡ slot_in hs o u
        go none e = unfold slot_in in rw (find-set o (u / group_units), e) (unfold maybe in refl)
        go (some g) e = unfold slot_in in rw (find-set o (u / group_units), e) (unfold maybe in slot-one o u d g (find-passes (is_group o (u / group_units)) hs g e))

    -- the book stays in order
    ascending-set : ascending group_before gs ≡ true → ascending group_before (set_slot object unit crc gs) ≡ true
    unfolding set_slot slot_set
    ascending-set a = ascending-through group_before (slot_set object unit crc) before-set (with_group object (unit / group_units) gs) (ascending-with object (unit / group_units) gs a)

    -- and its numbers in range
    fits-set : object < 2 ^ 64 → unit < 2 ^ 64 → crc < 2 ^ 32 → Each GroupFits gs → Each GroupFits (set_slot object unit crc gs)
    unfolding set_slot slot_set
    fits-set a b c h = each_map (slot_set object unit crc) (each_weaken (fits_one c) (each-with object (unit / group_units) gs GroupFits (fits-empty object (unit / group_units) a (omega arith)) h))

-- ---- all slots of a call

-- a unit stands before another
abbrev pub unit_before : Rewritten → Rewritten → Bool
unit_before r t = ltb r.unit t.unit

-- the units behind the first are later ones
pub units-later : (r : Rewritten) (rs : List Rewritten) → ascending unit_before (r ∷ rs) ≡ true → Each (λ t. r.unit < t.unit) rs
units-later r rs a =
    each_all (unit_before r) (λ t h. ltb-true r.unit t.unit h) rs
    (ascending-all unit_before (λ x y z p q. lt-ltb x.unit z.unit (omega (arith, ltb-true x.unit y.unit p, ltb-true y.unit z.unit q))) r rs a)

module _ (object : ℕ) where
  -- the slots' number stays
  wide-set : (unit crc : ℕ) (gs : List Group) → Each (λ g. length g.slots ≡ group_units) gs → Each (λ g. length g.slots ≡ group_units) (set_slot object unit crc gs)
  unfolding set_slot slot_set set_checksum_slot
  wide-set unit crc gs h =
      each_map (slot_set object unit crc) (each_weaken (λ g k. if-cases (λ (x : Group). length x.slots ≡ group_units) (is_group object (unit / group_units) g) _ g
      (λ e. length-set g.slots (unit % group_units) (some crc) ∙ k) (λ e. k))
      (each-with object (unit / group_units) gs (λ g. length g.slots ≡ group_units) (wide-empty object (unit / group_units)) h))

  -- a slot of no rewritten unit is as before
  pub slot-finished-other : (o u : ℕ) {rs : List Rewritten} → Each (λ r. o ≡ object → u ≡ r.unit → ⊥) rs → (gs : List Group) → slot_in (finished_groups object rs gs) o u ≡ slot_in gs o u
  unfolding finished_groups
  slot-finished-other o u each_none gs = refl
  slot-finished-other o u (each_more {x = r} d h) gs =
      slot-finished-other o u h (set_slot object r.unit r.checksum gs) ∙ slot-set-other object r.unit r.checksum gs o u d

  -- that of a rewritten unit is its checksum
  pub slot-finished-same : (rs : List Rewritten) → ascending unit_before rs ≡ true → (gs : List Group) → Each (λ g. length g.slots ≡ group_units) gs
      → (r : Rewritten) → Memᴰ r rs → slot_in (finished_groups object rs gs) object r.unit ≡ some r.checksum
  unfolding finished_groups
  slot-finished-same [] a gs h r m = elim m [ ]
  slot-finished-same (t ∷ rs) a gs h r (Memᴰ.tail m) =
      slot-finished-same rs (ascending-tail unit_before t rs a) (set_slot object t.unit t.checksum gs) (wide-set t.unit t.checksum gs h) r m
  slot-finished-same (t ∷ rs) a gs h r (Memᴰ.head e) =
      rw e (slot-finished-other object t.unit (each_weaken (λ s l p q. omega arith) (units-later t rs a)) (set_slot object t.unit t.checksum gs)
      ∙ slot-set-same object t.unit t.checksum gs h)

  -- the book stays in order
  pub ascending-finished : (rs : List Rewritten) (gs : List Group) → ascending group_before gs ≡ true → ascending group_before (finished_groups object rs gs) ≡ true
  unfolding finished_groups
  ascending-finished [] gs a = a
  ascending-finished (r ∷ rs) gs a = ascending-finished rs (set_slot object r.unit r.checksum gs) (ascending-set object r.unit r.checksum gs a)

  -- and its numbers in range
  pub fits-finished : object < 2 ^ 64 → {rs : List Rewritten} → Each (λ r. (r.unit < 2 ^ 64) × (r.checksum < 2 ^ 32)) rs → (gs : List Group) → Each GroupFits gs → Each GroupFits (finished_groups object rs gs)
  unfolding finished_groups
  fits-finished l each_none gs h = h
  fits-finished l (each_more {x = r} p k) gs h = fits-finished l k (set_slot object r.unit r.checksum gs) (fits-set object r.unit r.checksum gs l p.0 p.1 h)
