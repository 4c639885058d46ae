-- The groups of a change as lists: empty groups put in first, and then every slot set, leave what the rules' interleaved order does.
-- Assumes nothing.
use mathlib.Core.Path.{◌≡◌, refl, sym, ap, ◌∙◌}
use mathlib.Core.Bool.{Bool, true, false, ◌||◌}
use mathlib.Core.List.{List, [], ◌∷◌, ◌++◌, map}
use mathlib.Core.Option.{some}
use Prim.Native.Nat.{ℕ, zero, suc, ◌+◌, ◌/◌, ◌%◌, ◌<◌}
use native.Mathlib.Decide.{ℕ_discrete}
use native.Mathlib.Numerals.{add-one}
use native.Mathlib.Omega.{arith}
use lib.Dec.{eqb}
use lib.ListN.{length, take, drop, get_or, length-map}
use lib.Seq.{take-suc, length-take-le}
use borrow.Author.Tests.{eqb-true, eq-eqb}
use Rattle.rules.specs.Lists.{pick◌then◌else◌, any, insert}
use Rattle.rules.specs.Sizes.{group_units}
use Rattle.rules.specs.Group.{Group, group_before, empty_group, set_checksum_slot}
use Rattle.rules.specs.Rewrite.{Rewritten}
use Rattle.rules.specs.Finish.{is_group, with_group, set_slot, finished_groups}
use Rattle.rules.proofs.ListLaws.{clash, test-cases, if-true, if-false, if-cases, and_left, and_right, and_intro, or_left, or_right, any-map, order-cases, pair_before-trans, pair_before-not, pair_before-second, Each, each_none, each_more}
use Rattle.rules.proofs.EnterLaws.{any-insert}
use Rattle.book.specs.Places.{leading}
use Rattle.finish_books.specs.Groups.{set_slots}

-- ---- lists

module _ {A : Type 0} (before : A → A → Bool) where
  -- put in behind an element that stands before it
  insert-yes : (x y : A) (ys : List A) → before y x ≡ true → insert before x (y ∷ ys) ≡ y ∷ insert before x ys
  unfolding insert
  insert-yes x y ys t = if-true (before y x) (y ∷ insert before x ys) (x ∷ y ∷ ys) t

  -- and in front of one that does not
  insert-no : (x y : A) (ys : List A) → before y x ≡ false → insert before x (y ∷ ys) ≡ x ∷ y ∷ ys
  unfolding insert
  insert-no x y ys t = if-false (before y x) (y ∷ insert before x ys) (x ∷ y ∷ ys) t

  -- and alone
  insert-none : (x : A) → insert before x [] ≡ x ∷ []
  unfolding insert
  insert-none x = refl

  module _ (trans : (x y z : A) → before x y ≡ true → before y z ≡ true → before x z ≡ true) (x y : A) (p : before x y ≡ true) (q : before y x ≡ false) where
    -- two elements put in, in either order
    insert-swap : (zs : List A) → insert before x (insert before y zs) ≡ insert before y (insert before x zs)
    insert-swap [] = rw (insert-none y, insert-none x, insert-no x y [] q, insert-yes y x [] p, insert-none y) refl
    insert-swap (z ∷ zs) =
        test-cases (insert before x (insert before y (z ∷ zs)) ≡ insert before y (insert before x (z ∷ zs))) (before z x)
        (λ t. let u : before z y ≡ true = trans z x y t p in
        ap (insert before x) (insert-yes y z zs u) ∙ insert-yes x z (insert before y zs) t ∙ ap (λ (ws : List A). z ∷ ws) (insert-swap zs)
        ∙ sym (ap (insert before y) (insert-yes x z zs t) ∙ insert-yes y z (insert before x zs) u))
        (λ t. front t (test-cases (insert before x (insert before y (z ∷ zs)) ≡ x ∷ insert before y (z ∷ zs)) (before z y)
        (λ u. ap (insert before x) (insert-yes y z zs u) ∙ insert-no x z (insert before y zs) t ∙ ap (λ (ws : List A). x ∷ ws) (sym (insert-yes y z zs u)))
        (λ u. ap (insert before x) (insert-no y z zs u) ∙ insert-no x y (z ∷ zs) q ∙ ap (λ (ws : List A). x ∷ ws) (sym (insert-no y z zs u)))))
      where
        front : before z x ≡ false → insert before x (insert before y (z ∷ zs)) ≡ x ∷ insert before y (z ∷ zs) → insert before x (insert before y (z ∷ zs)) ≡ insert before y (insert before x (z ∷ zs))
        front t e = e ∙ sym (ap (insert before y) (insert-no x z zs t) ∙ insert-yes y x (z ∷ zs) p)

    -- two elements put in side by side, where none that does not stand before the first stands before the second
    pub insert-both : (zs : List A) → Each (λ z. before z x ≡ false → before z y ≡ false) zs
        → insert before y (insert before x zs) ≡ take (leading (λ z. before z x) zs) zs ++ (x ∷ y ∷ []) ++ drop (leading (λ z. before z x) zs) zs
    unfolding leading
    insert-both [] each_none = rw (insert-none x, insert-yes y x [] p, insert-none y) refl
    insert-both (z ∷ zs) (each_more h hs) =
        test-cases _ (before z x)
        (λ t. rw (if-true (before z x) (suc (leading (λ w. before w x) zs)) 0 t)
        (ap (insert before y) (insert-yes x z zs t) ∙ insert-yes y z (insert before x zs) (trans z x y t p) ∙ ap (λ (ws : List A). z ∷ ws) (insert-both zs hs)))
        (λ t. rw (if-false (before z x) (suc (leading (λ w. before w x) zs)) 0 t)
        (ap (insert before y) (insert-no x z zs t) ∙ insert-yes y x (z ∷ zs) p
        ∙ ap (λ (ws : List A). x ∷ ws) (insert-no y z zs (h t))))

  -- an element that stays as it is, put into elements put through a function
  insert-through : (φ : A → A) (x : A) → φ x ≡ x → ((y : A) → before (φ y) x ≡ before y x) → (ys : List A) → insert before x (map φ ys) ≡ map φ (insert before x ys)
  insert-through φ x e h [] = rw (insert-none x) (ap (λ (z : A). z ∷ []) (sym e))
  insert-through φ x e h (y ∷ ys) =
      test-cases (insert before x (map φ (y ∷ ys)) ≡ map φ (insert before x (y ∷ ys))) (before y x)
      (λ t. insert-yes x (φ y) (map φ ys) (h y ∙ t) ∙ ap (λ (zs : List A). φ y ∷ zs) (insert-through φ x e h ys) ∙ sym (ap (map φ) (insert-yes x y ys t)))
      (λ t. insert-no x (φ y) (map φ ys) (h y ∙ t) ∙ ap (λ (z : A). z ∷ map φ (y ∷ ys)) (sym e) ∙ sym (ap (map φ) (insert-no x y ys t)))

-- a test that gives the same at every element
any_same : {A : Type 0} (f g : A → Bool) → ((x : A) → f x ≡ g x) → (xs : List A) → any f xs ≡ any g xs
unfolding any
any_same f g h [] = refl
any_same f g h (x ∷ xs) = rw (h x, any_same f g h xs) refl

-- ---- the keys of groups

-- before is transitive
pub before-trans : (g h k : Group) → group_before g h ≡ true → group_before h k ≡ true → group_before g k ≡ true
unfolding group_before
before-trans g h k p q = pair_before-trans g.object g.number h.object h.number k.object k.number p q

-- the group is this one
pub is-group : (object number : ℕ) (g : Group) → is_group object number g ≡ true → (g.object ≡ object) × (g.number ≡ number)
unfolding is_group
is-group object number g h = (
  eqb-true g.object object (and_left (eqb g.object object) (eqb g.number number) h),
  eqb-true g.number number (and_right (eqb g.object object) (eqb g.number number) h),
)

-- a group with this object and number is
pub group-is : (object number : ℕ) (g : Group) → g.object ≡ object → g.number ≡ number → is_group object number g ≡ true
unfolding is_group
group-is object number g p q =
    and_intro (eqb g.object object) (eqb g.number number) (eq-eqb g.object object p) (eq-eqb g.number number q)

-- one with another object or number is not
group-not : (object number : ℕ) (g : Group) → ((g.object ≡ object) → (g.number ≡ number) → ⊥) → is_group object number g ≡ false
group-not object number g d =
    test-cases (is_group object number g ≡ false) (is_group object number g) (λ e. let h = is-group object number g e in absurd (d h.0 h.1)) (λ e. e)

-- an empty group is that of its key
empty-is : (object number : ℕ) → is_group object number (empty_group object number) ≡ true
unfolding empty_group
empty-is object number = group-is object number (empty_group object number) refl refl

-- and no other
empty-not : (object a b : ℕ) → (a ≡ b → ⊥) → is_group object b (empty_group object a) ≡ false
unfolding empty_group
empty-not object a b d = group-not object b (empty_group object a) (λ p q. d q)

-- empty groups of one object stand by their numbers
pub empty-before : (object a b : ℕ) → a < b → group_before (empty_group object a) (empty_group object b) ≡ true
unfolding group_before empty_group
empty-before object a b l = pair_before-second object a object b refl l

-- and not the other way round
pub empty-behind : (object a b : ℕ) → a < b → group_before (empty_group object b) (empty_group object a) ≡ false
empty-behind object a b l =
    test-cases (group_before (empty_group object b) (empty_group object a) ≡ false) (group_before (empty_group object b) (empty_group object a))
    (λ t. absurd (clash (self (empty_group object a)) (before-trans (empty_group object a) (empty_group object b) (empty_group object a) (empty-before object a b l) t))) (λ t. t)
  where
    self : (g : Group) → group_before g g ≡ false
    self g = unfold group_before in pair_before-not g.object g.number

-- ---- a group added if missing

module _ (object : ℕ) where
  -- nothing is added where it is there
  pub with-there : (a : ℕ) (gs : List Group) → any (is_group object a) gs ≡ true → with_group object a gs ≡ gs
  unfolding with_group
  with-there a gs h = if-true (any (is_group object a) gs) gs (insert group_before (empty_group object a) gs) h

  -- it is put in where it is not
  pub with-missing : (a : ℕ) (gs : List Group) → any (is_group object a) gs ≡ false → with_group object a gs ≡ insert group_before (empty_group object a) gs
  unfolding with_group
  with-missing a gs h = if-false (any (is_group object a) gs) gs (insert group_before (empty_group object a) gs) h

  -- a group is there where it was, or where it was put in
  any-with : (a b : ℕ) (gs : List Group) → any (is_group object b) (insert group_before (empty_group object a) gs) ≡ (is_group object b (empty_group object a) || any (is_group object b) gs)
  any-with a b gs = any-insert group_before (is_group object b) (empty_group object a) gs

  -- one that was there is there still
  pub with-keeps : (a b : ℕ) (gs : List Group) → any (is_group object b) gs ≡ true → any (is_group object b) (with_group object a gs) ≡ true
  unfolding with_group
  with-keeps a b gs h =
      if-cases (λ (hs : List Group). any (is_group object b) hs ≡ true) (any (is_group object a) gs) gs (insert group_before (empty_group object a) gs) (λ t. h)
      (λ t. any-with a b gs ∙ or_right (is_group object b (empty_group object a)) (any (is_group object b) gs) h)

  -- the added one is there
  pub with-has : (a : ℕ) (gs : List Group) → any (is_group object a) (with_group object a gs) ≡ true
  unfolding with_group
  with-has a gs =
      if-cases (λ (hs : List Group). any (is_group object a) hs ≡ true) (any (is_group object a) gs) gs (insert group_before (empty_group object a) gs) (λ t. t)
      (λ t. any-with a a gs ∙ or_left (is_group object a (empty_group object a)) (any (is_group object a) gs) (empty-is object a))

  -- one that is missing is missing still where another is put in
  pub missing-still : (a b : ℕ) (gs : List Group) → (a ≡ b → ⊥) → any (is_group object b) gs ≡ false → any (is_group object b) (insert group_before (empty_group object a) gs) ≡ false
  missing-still a b gs d h = any-with a b gs ∙ rw (empty-not object a b d) h

  -- two added, in either order
  with-swap : (a b : ℕ) (gs : List Group) → (a ≡ b → ⊥) → with_group object b (with_group object a gs) ≡ with_group object a (with_group object b gs)
  with-swap a b gs d =
      test-cases (with_group object b (with_group object a gs) ≡ with_group object a (with_group object b gs)) (any (is_group object a) gs)
      (λ t. ap (with_group object b) (with-there a gs t) ∙ sym (with-there a (with_group object b gs) (with-keeps b a gs t)))
      (λ t. test-cases (with_group object b (with_group object a gs) ≡ with_group object a (with_group object b gs)) (any (is_group object b) gs)
      (λ u. with-there b (with_group object a gs) (with-keeps a b gs u) ∙ sym (ap (with_group object a) (with-there b gs u)))
      (λ u. ap (with_group object b) (with-missing a gs t) ∙ with-missing b (insert group_before (empty_group object a) gs) (missing-still a b gs d u)
      ∙ either u t
      ∙ sym (ap (with_group object a) (with-missing b gs u) ∙ with-missing a (insert group_before (empty_group object b) gs) (missing-still b a gs (λ e. d (sym e)) t))))
    where
      either : any (is_group object b) gs ≡ false → any (is_group object a) gs ≡ false
          → insert group_before (empty_group object b) (insert group_before (empty_group object a) gs) ≡ insert group_before (empty_group object a) (insert group_before (empty_group object b) gs)
      either u t =
          order-cases (insert group_before (empty_group object b) (insert group_before (empty_group object a) gs) ≡ insert group_before (empty_group object a) (insert group_before (empty_group object b) gs)) a b
          (λ l. sym (insert-swap group_before before-trans (empty_group object a) (empty_group object b) (empty-before object a b l) (empty-behind object a b l) gs))
          (λ e. absurd (d e))
          (λ l. insert-swap group_before before-trans (empty_group object b) (empty_group object a) (empty-before object b a l) (empty-behind object b a l) gs)

-- ---- a slot set

module _ (object unit crc : ℕ) where
  -- a group with its slot set, where it is the unit's
  unfoldable pub slot_set : Group → Group
  slot_set g = pick is_group object (unit / group_units) g then set_checksum_slot g (unit % group_units) (some crc) else g

  -- the groups are the old ones, and the added one, put through it
  pub set_is : (gs : List Group) → set_slot object unit crc gs ≡ map slot_set (with_group object (unit / group_units) gs)
  unfolding set_slot slot_set
  set_is gs = refl

  -- its object and number stay
  key_set : (g : Group) → ((slot_set g).object ≡ g.object) × ((slot_set g).number ≡ g.number)
  unfolding slot_set set_checksum_slot
  key_set g = if-cases (λ (h : Group). (h.object ≡ g.object) × (h.number ≡ g.number)) (is_group object (unit / group_units) g) _ g (λ e. (refl, refl)) (λ e. (refl, refl))

  -- so every test of them gives the same
  is_set : (m : ℕ) (g : Group) → is_group object m (slot_set g) ≡ is_group object m g
  unfolding is_group
  is_set m g = rw ((key_set g).0, (key_set g).1) refl

  -- as does the order to another
  before-set : (g h : Group) → group_before (slot_set g) h ≡ group_before g h
  unfolding group_before
  before-set g h = rw ((key_set g).0, (key_set g).1) refl

  -- the same groups are there
  any-set : (m : ℕ) (gs : List Group) → any (is_group object m) (map slot_set gs) ≡ any (is_group object m) gs
  any-set m gs = any-map (is_group object m) slot_set gs ∙ any_same (λ g. is_group object m (slot_set g)) (is_group object m) (is_set m) gs

  -- one that was there is there still
  set_keeps : (m : ℕ) (gs : List Group) → any (is_group object m) gs ≡ true → any (is_group object m) (set_slot object unit crc gs) ≡ true
  set_keeps m gs h = rw (set_is gs) (any-set m (with_group object (unit / group_units) gs) ∙ with-keeps object (unit / group_units) m gs h)

  -- the unit's is there
  set-has : (gs : List Group) → any (is_group object (unit / group_units)) (set_slot object unit crc gs) ≡ true
  set-has gs = rw (set_is gs) (any-set (unit / group_units) (with_group object (unit / group_units) gs) ∙ with-has object (unit / group_units) gs)

  -- an empty group of another number stays empty
  empty-set : (a : ℕ) → (a ≡ unit / group_units → ⊥) → slot_set (empty_group object a) ≡ empty_group object a
  unfolding slot_set
  empty-set a d = if-false (is_group object (unit / group_units) (empty_group object a)) _ (empty_group object a) (empty-not object a (unit / group_units) d)

  -- added before or behind
  with-set : (a : ℕ) (gs : List Group) → (a ≡ unit / group_units → ⊥) → with_group object a (map slot_set gs) ≡ map slot_set (with_group object a gs)
  with-set a gs d =
      test-cases (with_group object a (map slot_set gs) ≡ map slot_set (with_group object a gs)) (any (is_group object a) gs)
      (λ t. with-there object a (map slot_set gs) (any-set a gs ∙ t) ∙ sym (ap (map slot_set) (with-there object a gs t)))
      (λ t. with-missing object a (map slot_set gs) (any-set a gs ∙ t)
      ∙ insert-through group_before slot_set (empty_group object a) (empty-set a d) (λ g. before-set g (empty_group object a)) gs
      ∙ sym (ap (map slot_set) (with-missing object a gs t)))

  -- where the unit's group was added before, nothing changes
  set-mine : (gs : List Group) → set_slot object unit crc (with_group object (unit / group_units) gs) ≡ set_slot object unit crc gs
  set-mine gs = rw (set_is (with_group object (unit / group_units) gs), set_is gs)
      (ap (map slot_set) (with-there object (unit / group_units) (with_group object (unit / group_units) gs) (with-has object (unit / group_units) gs)))

  -- a group added before a slot is set is added behind
  set-with : (a : ℕ) (gs : List Group) → set_slot object unit crc (with_group object a gs) ≡ with_group object a (set_slot object unit crc gs)
  set-with a gs = go (ℕ_discrete a (unit / group_units))
    where
      go : Dec (a ≡ unit / group_units) → set_slot object unit crc (with_group object a gs) ≡ with_group object a (set_slot object unit crc gs)
      go (yes e) =
          rw e (set-mine gs ∙ sym (with-there object (unit / group_units) (set_slot object unit crc gs) (set-has gs)))
      go (no d) =
          rw (set_is (with_group object a gs), set_is gs)
          (ap (map slot_set) (with-swap object a (unit / group_units) gs d) ∙ sym (with-set a (with_group object (unit / group_units) gs) d))

  -- where the unit's group is there, the groups stay as many
  set-length : (gs : List Group) → any (is_group object (unit / group_units)) gs ≡ true → length (set_slot object unit crc gs) ≡ length gs
  set-length gs h = rw (set_is gs) (length-map (with_group object (unit / group_units) gs) slot_set ∙ ap length (with-there object (unit / group_units) gs h))

-- ---- the slots of all units

module _ (object : ℕ) where
  -- a group of one of the units may be added first
  pub slots_with : (us cs : List ℕ) (k : ℕ) (gs : List Group) → k < length us → length us ≡ length cs
      → set_slots object us cs (with_group object (get_or us k 0 / group_units) gs) ≡ set_slots object us cs gs
  unfolding set_slots
  slots_with [] cs k gs l e = absurd (omega arith)
  slots_with (u ∷ us) [] k gs l e = absurd (omega arith)
  slots_with (u ∷ us) (c ∷ cs) zero gs l e = ap (set_slots object us cs) (set-mine object u c gs)
  slots_with (u ∷ us) (c ∷ cs) (suc k) gs l e =
      ap (set_slots object us cs) (set-with object u c (get_or us k 0 / group_units) gs) ∙ slots_with us cs k (set_slot object u c gs) (omega arith) (omega arith)

  -- the rules' fold is this one
  pub finished-slots : (rs : List Rewritten) (gs : List Group) → finished_groups object rs gs ≡ set_slots object (map (λ r. r.unit) rs) (map (λ r. r.checksum) rs) gs
  unfolding set_slots finished_groups
  finished-slots [] gs = refl
  finished-slots (r ∷ rs) gs = finished-slots rs (set_slot object r.unit r.checksum gs)

  -- some units, and those after them
  slots-append : (us vs cs ds : List ℕ) (gs : List Group) → length us ≡ length cs → set_slots object (us ++ vs) (cs ++ ds) gs ≡ set_slots object vs ds (set_slots object us cs gs)
  unfolding set_slots
  slots-append [] vs [] ds gs e = refl
  slots-append [] vs (c ∷ cs) ds gs e = absurd (omega arith)
  slots-append (u ∷ us) vs [] ds gs e = absurd (omega arith)
  slots-append (u ∷ us) vs (c ∷ cs) ds gs e = slots-append us vs cs ds (set_slot object u c gs) (omega arith)

  -- one unit more
  pub slots-more : (us cs : List ℕ) (i : ℕ) (gs : List Group) → length us ≡ length cs → i < length us
      → set_slots object (take (i + 1) us) (take (i + 1) cs) gs ≡ set_slot object (get_or us i 0) (get_or cs i 0) (set_slots object (take i us) (take i cs) gs)
  unfolding set_slots
  slots-more us cs i gs e l =
      let a : length (take i us) ≡ i = length-take-le i us (omega arith) in
      let b : length (take i cs) ≡ i = length-take-le i cs (omega arith) in
      rw (add-one i, take-suc us i 0 l, take-suc cs i 0 (rw e at l)) (slots-append (take i us) (get_or us i 0 ∷ []) (take i cs) (get_or cs i 0 ∷ []) gs (a ∙ sym b))

  -- before the first
  pub slots-none : (us cs : List ℕ) (gs : List Group) → set_slots object (take 0 us) (take 0 cs) gs ≡ gs
  unfolding set_slots
  slots-none us cs gs = refl

  -- a group that was there is there still
  pub slots-keep : (us cs : List ℕ) (m : ℕ) (gs : List Group) → any (is_group object m) gs ≡ true → any (is_group object m) (set_slots object us cs gs) ≡ true
  unfolding set_slots
  slots-keep [] cs m gs h = h
  slots-keep (u ∷ us) [] m gs h = h
  slots-keep (u ∷ us) (c ∷ cs) m gs h = slots-keep us cs m (set_slot object u c gs) (set_keeps object u c m gs h)

  -- where the groups of all are there, the groups stay as many
  pub slots_length : (us cs : List ℕ) (gs : List Group) → ((k : ℕ) → k < length us → any (is_group object (get_or us k 0 / group_units)) gs ≡ true) → length (set_slots object us cs gs) ≡ length gs
  unfolding set_slots
  slots_length [] cs gs h = refl
  slots_length (u ∷ us) [] gs h = refl
  slots_length (u ∷ us) (c ∷ cs) gs h =
      slots_length us cs (set_slot object u c gs) (λ k l. set_keeps object u c (get_or us k 0 / group_units) gs (h (suc k) (omega arith))) ∙ set-length object u c gs (h 0 (omega arith))
