-- Laws of a walk over the units of a file: what has been seen so far, group by group.
-- Assumes nothing.
use mathlib.Core.Path.{◌≡◌, refl, sym, ap, ◌∙◌, subst}
use mathlib.Core.Bool.{Bool, true, false, not, ◌&&◌}
use mathlib.Core.List.{List, [], ◌∷◌}
use Prim.Native.Nat.{ℕ, suc, ◌+◌, ◌-◌, ◌*◌, ◌/◌, ◌%◌, ◌^◌, min, ◌≤◌, ◌<◌}
use native.Mathlib.Omega.{arith}
use lib.Dec.{eqb, ltb}
use lib.ListN.{length}
use borrow.Author.Tests.{eqb-true, eq-eqb, ne_eqb, ltb-true, ltb-false, lt-ltb, not-true}
use Rattle.rules.specs.Lists.{pick◌then◌else◌, given, pair_before}
use Rattle.rules.specs.Sizes.{group_units}
use Rattle.rules.specs.Group.{group_bytes, decode_group, checksum_slot}
use Rattle.rules.specs.Stretches.{most_number}
use Rattle.rules.proofs.ListLaws.{test-cases, order-cases, clash, and_left, and_right, if-true, if-false, if-cases, pair_before-first, pair_before-second, pair_before-not}
use Rattle.rules.proofs.StretchLaws.{no-stretch, next-stretch}
use Rattle.halving.specs.Halving.{Parted}
use Rattle.book.specs.Places.{record_at, group_under}
use Rattle.presence.specs.Units.{NextOf, GroupsRight, groups_in, slotted, Placed, number_at, stretch, stretches_from}
use Rattle.presence.proofs.PlaceLaws.{parted-later, parted-next, slotted-here, slotted-none}

-- the walk from a on has come to a unit, and every unit in front of it is not as asked; its place in the book is right as long as it is not at the end
pub record Walked (n : ℕ) (s : List ℕ) (object : ℕ) (b : Bool) (a e unit place : ℕ) : Type 0 where
  pub least : a ≤ unit
  pub before : (v : ℕ) → a ≤ v → v < unit → v < e → slotted (groups_in n s) object v ≡ not b
  pub placed : unit < e → Placed n s object unit place

-- it starts
pub walk-starts : (n : ℕ) (s : List ℕ) (object : ℕ) (b : Bool) (a e place : ℕ) → (a < e → Placed n s object a place) → Walked n s object b a e a place
walk-starts n s object b a e place p = record { least = omega arith; before = λ v l m k. absurd (omega (arith, l, m)); placed = p }

module _ (n : ℕ) (s : List ℕ) (right : GroupsRight n s) (object place : ℕ) where
  -- the group at the place
  abbrev object-there : ℕ
  object-there = (record_at decode_group group_bytes s place).object

  abbrev number-there : ℕ
  number-there = (record_at decode_group group_bytes s place).number

  -- a number that is not the greatest is that of a group of the object
  pub number-own : (m : ℕ) → m ≡ number_at n s object place → m < most_number → (place < n) × (object-there ≡ object) × (number-there ≡ m)
  unfolding number_at
  number-own m e = rw e (if-cases (λ x. x < most_number → (place < n) × (object-there ≡ object) × (number-there ≡ x)) (ltb place n && eqb object-there object) number-there most_number
      (λ t l. (ltb-true place n (and_left (ltb place n) (eqb object-there object) t), eqb-true object-there object (and_right (ltb place n) (eqb object-there object) t), refl))
      (λ t l. absurd (omega (arith, l))))

  -- the number of the group there, where it is one of the object's, is the unit's or a greater one
  own-number : place < n → object-there ≡ object → number_at n s object place ≡ number-there
  unfolding number_at
  own-number l o = if-cases (λ x. x ≡ number-there) (ltb place n && eqb object-there object) number-there most_number (λ t. refl)
      (λ t. absurd (clash t (rw (lt-ltb place n l) (eq-eqb object-there object o))))

  module _ (unit : ℕ) (p : Placed n s object unit place) where
    -- no group of the file from the unit's on is in front of the group there
    not-under : place < n → group_under object (unit / group_units) (record_at decode_group group_bytes s place) ≡ false
    not-under l = p.behind place (omega arith) l

    pub number-least : unit < 2 ^ 63 → unit / group_units ≤ number_at n s object place
    unfolding number_at
    number-least k = if-cases (λ x. unit / group_units ≤ x) (ltb place n && eqb object-there object) number-there most_number
        (λ t. let l = ltb-true place n (and_left (ltb place n) (eqb object-there object) t) in
        let o = eqb-true object-there object (and_right (ltb place n) (eqb object-there object) t) in
        test-cases _ (ltb number-there (unit / group_units))
        (λ q. absurd (clash (not-under l) (pair_before-second object-there number-there object (unit / group_units) o (ltb-true number-there (unit / group_units) q))))
        (λ q. ltb-false number-there (unit / group_units) q))
        (λ t. omega (arith, k))

    -- a number below that of the group there is in front of it
    ahead : (m : ℕ) → m < number_at n s object place → place < n → pair_before object m object-there number-there ≡ true
    ahead m k l = order-cases _ object object-there
        (λ a. pair_before-first object m object-there number-there a)
        (λ a. pair_before-second object m object-there number-there a (omega (arith, k, own-number l (sym a))))
        (λ a. absurd (clash (not-under l) (pair_before-first object-there number-there object (unit / group_units) a)))

    -- so the units from there on of lower numbers have no slot
    none_ahead : (u : ℕ) → unit ≤ u → u / group_units < number_at n s object place → slotted (groups_in n s) object u ≡ false
    none_ahead u l k = slotted-none n s right object unit u place p l (ahead (u / group_units) k)

    module _ (m : ℕ) (q : m ≡ number_at n s object place) where
      -- where the unit's group is the one there, its units have the slots of that group
      here : m ≡ unit / group_units → unit < 2 ^ 63 → (u : ℕ) → u / group_units ≡ unit / group_units → slotted (groups_in n s) object u ≡ given (checksum_slot (record_at decode_group group_bytes s place) (u % group_units))
      here e k u d =
          let o = number-own m q (omega (arith, e, k)) in
          slotted-here n s right object u place (subst (λ (x : ℕ). Parted (λ i. group_under object x (record_at decode_group group_bytes s i)) n place) (sym d) p) o.0 o.1 (o.2 ∙ e ∙ sym d)

-- ---- a step

module _ (n : ℕ) (s : List ℕ) (right : GroupsRight n s) (object : ℕ) (b : Bool) (a e unit place : ℕ) (small : e < 2 ^ 63) (w : Walked n s object b a e unit place) (l : unit < e) (m : ℕ) (q : m ≡ number_at n s object place) where
  -- the slots of the group there, by units
  abbrev slot : ℕ → Bool
  slot u = given (checksum_slot (record_at decode_group group_bytes s place) (u % group_units))

  -- the group there is that of the unit, and lies in the book
  pub group-within : m ≡ unit / group_units → group_bytes * place + group_bytes ≤ length s
  group-within h = let o = number-own n s right object place m q (omega (arith, h, small, l)) in omega (arith, o.0, right.places)

  -- a place behind it fits
  pub place-fits : m ≡ unit / group_units → place + 1 ≤ n
  place-fits h = let o = number-own n s right object place m q (omega (arith, h, small, l)) in omega (arith, o.0)

  module _ (h : m ≡ unit / group_units) (u : ℕ) (next : NextOf slot b unit (unit / group_units * group_units + group_units) u) where
    -- the units in front of the next one are not as asked
    seen : (v : ℕ) → a ≤ v → v < u → v < e → slotted (groups_in n s) object v ≡ not b
    seen v c d k = test-cases (slotted (groups_in n s) object v ≡ not b) (ltb v unit) (λ t. w.before v c (ltb-true v unit t) k)
        (λ t. let x = ltb-false v unit t in
        here n s right object place unit (w.placed l) m q h (omega (arith, small, l)) v (omega (arith, x, d, next.most)) ∙ next.before v x d)

    -- one was found in the group: it is the answer, or the end
    pub step-found : u / group_units ≡ m → (r : ℕ) → r ≡ min u e → NextOf (slotted (groups_in n s) object) b a e r
    step-found g r z = record {
      least = omega (arith, z, w.least, next.least, l);
      most = omega (arith, z);
      before = λ v c d. seen v c (omega (arith, z, d)) (omega (arith, z, d));
      found = λ k. let x : r ≡ u = omega (arith, z, k) in
          ap (slotted (groups_in n s) object) x ∙ here n s right object place unit (w.placed l) m q h (omega (arith, small, l)) u (g ∙ h) ∙ next.found (omega (arith, g, h));
    }

    pub step-found-placed : u / group_units ≡ m → (r : ℕ) → r ≡ min u e → r < e → Placed n s object r place
    step-found-placed g r z k =
        let x : unit / group_units ≡ r / group_units = omega (arith, z, k, g, h) in
        subst (λ (y : ℕ). Parted (λ i. group_under object y (record_at decode_group group_bytes s i)) n place) x (w.placed l)

    -- none was: the walk goes on behind the group
    pub step-group : (u / group_units ≡ m → ⊥) → Walked n s object b a e u (place + 1)
    step-group g = record {
      least = omega (arith, w.least, next.least);
      before = seen;
      placed = λ k. let o = number-own n s right object place m q (omega (arith, h, small, l)) in
          let x : suc (unit / group_units) ≡ u / group_units = omega (arith, g, h, next.least, next.most) in
          let y : suc place ≡ place + 1 = omega arith in
          subst (λ (z : ℕ). Parted (λ i. group_under object z (record_at decode_group group_bytes s i)) n (place + 1)) x
          (subst (λ (z : ℕ). Parted (λ i. group_under object (suc (unit / group_units)) (record_at decode_group group_bytes s i)) n z) y (parted-next n s right object (unit / group_units) place (w.placed l) o.0 o.1 (o.2 ∙ h)));
    }

  module _ (d : m ≡ unit / group_units → ⊥) where
    -- the unit's group is not in the book: the one there is of a greater number, or none of the file's
    more : unit / group_units < m
    more = let x = number-least n s right object place unit (w.placed l) (omega (arith, small, l)) in omega (arith, d, q, x)

    -- units of lower numbers have no slot
    bare : (v : ℕ) → unit ≤ v → v / group_units < m → slotted (groups_in n s) object v ≡ false
    bare v c k = none_ahead n s right object place unit (w.placed l) v c (omega (arith, k, q))

    -- so it is the next without one
    pub step-hole : not b ≡ true → NextOf (slotted (groups_in n s) object) b a e unit
    step-hole g = record {
      least = w.least;
      most = omega (arith, l);
      before = λ v c k. w.before v c k (omega (arith, k, l));
      found = λ k. bare unit (omega arith) more ∙ sym (not-true b g);
    }

    module _ (g : not b ≡ false) where
      -- what was seen, and what is bare up to the group there
      passed : (v : ℕ) → a ≤ v → v / group_units < m → v < e → slotted (groups_in n s) object v ≡ not b
      passed v c k j = test-cases (slotted (groups_in n s) object v ≡ not b) (ltb v unit) (λ t. w.before v c (ltb-true v unit t) j)
          (λ t. bare v (ltb-false v unit t) k ∙ sym g)

      -- no group is left before the end
      pub step_end : (e - 1) / group_units < m → NextOf (slotted (groups_in n s) object) b a e e
      step_end k = record {
        least = omega (arith, w.least, l);
        most = omega arith;
        before = λ v c j. passed v c (omega (arith, j, k)) j;
        found = λ j. absurd (omega (arith, j));
      }

      -- the walk goes on at the group's first unit
      pub step-jump : m ≤ (e - 1) / group_units → Walked n s object b a e (m * group_units) place
      step-jump k = record {
        least = omega (arith, w.least, more);
        before = λ v c j i. passed v c (omega (arith, j)) i;
        placed = λ j. let x : m ≡ m * group_units / group_units = omega arith in
            subst (λ (z : ℕ). Parted (λ i. group_under object z (record_at decode_group group_bytes s i)) n place) x
            (parted-later n s right object (unit / group_units) m place (w.placed l) (omega (arith, more)) (λ i. own-not));
      }
        where
          own-not : group_under object m (record_at decode_group group_bytes s place) ≡ false
          own-not = let o = number-own n s right object place m q (omega (arith, k, small)) in rw (o.1, o.2) (pair_before-not object m)

-- the walk has come to the end
pub walk_ends : (n : ℕ) (s : List ℕ) (object : ℕ) (b : Bool) (a e unit place : ℕ) → a ≤ e → Walked n s object b a e unit place → e ≤ unit → NextOf (slotted (groups_in n s) object) b a e e
walk_ends n s object b a e unit place k w l = record {
  least = k;
  most = omega arith;
  before = λ v c d. w.before v c (omega (arith, d, l)) d;
  found = λ j. absurd (omega (arith, j));
}

-- ---- how long it takes

-- rounds that are left: two for each group of the book from the place on, one to come to it and one to look into it, and one more where the walk is not at
-- the group that stands there. So it is the groups that a walk goes through, whatever the range
unfoldable pub rounds_left : (n : ℕ) (s : List ℕ) (object unit place : ℕ) → ℕ
rounds_left n s object unit place = 2 * (n - place) + (pick eqb (number_at n s object place) (unit / group_units) then 0 else 1)

-- whatever they are, one more at most
one-most : (b : Bool) → (pick b then 0 else 1) ≤ 1
one-most b = if-cases (λ k. k ≤ 1) b 0 1 (λ t. omega arith) (λ t. omega arith)

module _ (n : ℕ) (s : List ℕ) (object unit place : ℕ) where
  -- a group is behind
  pub rounds-group : (u : ℕ) → place + 1 ≤ n → rounds_left n s object u (place + 1) < rounds_left n s object unit place
  unfolding rounds_left
  rounds-group u l = let x = one-most (eqb (number_at n s object (place + 1)) (u / group_units)) in omega (arith, l, x)

  -- the walk has come to the group there
  pub rounds-jump : (m : ℕ) → m ≡ number_at n s object place → (m ≡ unit / group_units → ⊥) → rounds_left n s object (m * group_units) place < rounds_left n s object unit place
  unfolding rounds_left
  rounds-jump m q d =
      let e : number_at n s object place ≡ m * group_units / group_units = omega (arith, q) in
      rw (if-true {A = ℕ} (eqb (number_at n s object place) (m * group_units / group_units)) 0 1 (eq-eqb _ _ e), if-false {A = ℕ} (eqb (number_at n s object place) (unit / group_units)) 0 1 (ne_eqb _ _ (λ x. d (q ∙ x)))) (omega arith)

-- ---- a stretch

-- the next unit with a slot and the next without one behind it bound the first stretch
module _ (f : ℕ → Bool) (a e d h : ℕ) (l : a < e) (slot : NextOf f true a e d) (hole : NextOf f false d e h) where
  -- where there is one, the unit behind it is another
  past_first : d < e → d < h
  past_first k = test-cases (d < h) (ltb d h) (λ t. ltb-true d h t)
      (λ t. let x : h ≡ d = omega (arith, ltb-false d h t, hole.least) in
      absurd (clash (sym (ap f x) ∙ hole.found (omega (arith, x, k))) (slot.found k)))

  pub span-stretch : stretches_from f a e ≡ (pick ltb d e then stretch d (h - d) ∷ stretches_from f h e else [])
  span-stretch = sym (if-cases (λ rs. rs ≡ stretches_from f a e) (ltb d e) (stretch d (h - d) ∷ stretches_from f h e) []
      (λ t. let k = ltb-true d e t in sym (next-stretch f a d h e slot.least (past_first k) hole.most slot.before hole.before hole.found))
      (λ t. let k : d ≡ e = omega (arith, ltb-false d e t, slot.most) in sym (no-stretch f a e (λ u x y. slot.before u x (omega (arith, y, k))))))

  pub span-bounds : (a < h) × (d ≤ h) × (h ≤ e)
  span-bounds = (test-cases (a < h) (ltb d e) (λ t. let x = past_first (ltb-true d e t) in omega (arith, x, slot.least)) (λ t. omega (arith, ltb-false d e t, hole.least, l)), hole.least, hole.most)
