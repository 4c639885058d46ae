-- Laws of the groups of a file in an ordered book, by the place of the first that is not in front of a number.
-- Assumes nothing.
use mathlib.Core.Path.{◌≡◌, sym, ap, ◌∙◌, subst}
use mathlib.Core.Bool.{Bool, true, false}
use mathlib.Core.List.{List}
use mathlib.Core.Option.{none, some}
use Prim.Native.Nat.{ℕ, zero, suc, ◌+◌, ◌-◌, ◌/◌, ◌%◌, ◌≤◌, ◌<◌}
use native.Mathlib.Omega.{arith}
use lib.Dec.{eqb, ltb}
use lib.ListN.{length, get_or}
use borrow.Author.Tests.{eqb-true, eq-eqb, ltb-true, ltb-false}
use Rattle.rules.specs.Lists.{given, any, find, pair_before}
use Rattle.rules.specs.Sizes.{group_units}
use Rattle.rules.specs.Group.{Group, group_bytes, decode_group, group_before, checksum_slot}
use Rattle.rules.proofs.ListLaws.{test-cases, order-cases, clash, and_left, and_right, and_intro, maybe-some, maybe-none, find_at, find_none, any-index, ascending-at, pair_before-cases, pair_before-first, pair_before-second, pair_before-trans, pair_before-not}
use Rattle.rules.proofs.BookLaws.{length-decode_book, get_or-decode_book}
use Rattle.halving.specs.Halving.{Parted}
use Rattle.book.specs.Places.{record_at, group_is, group_under, leading}
use Rattle.book.proofs.SearchLaws.{leading-passes, leading-fails}
use Rattle.presence.specs.Units.{GroupsRight, groups_in, slotted, Placed}

module _ (n : ℕ) (s : List ℕ) (right : GroupsRight n s) where
  -- the group at a place
  abbrev group : ℕ → Group
  group i = record_at decode_group group_bytes s i

  -- a group stands before another
  abbrev Before : ℕ → ℕ → Type 0
  Before i j = pair_before (group i).object (group i).number (group j).object (group j).number ≡ true

  -- it is the element of the list there
  group_at : (i : ℕ) → i < n → get_or (groups_in n s) i (group 0) ≡ group i
  unfolding record_at
  group_at i l = get_or-decode_book decode_group group_bytes n s i (group 0) l

  -- neighbours
  next-before : (i : ℕ) → suc i < n → Before i (suc i)
  unfolding group_before
  next-before i l =
      let len : length (groups_in n s) ≡ n = length-decode_book decode_group group_bytes n s in
      rw (← group_at i (omega (arith, l)), ← group_at (suc i) l) (ascending-at group_before (groups_in n s) right.order i (group 0) (omega (arith, len, l)))

  -- and those further apart
  far-before : (i d : ℕ) → i + suc d < n → Before i (i + suc d)
  far-before i zero l =
      let e : i + 1 ≡ suc i = omega arith in
      rw e (next-before i (omega (arith, l)))
  far-before i (suc d) l =
      let e : i + suc (suc d) ≡ suc (i + suc d) = omega arith in
      rw e (pair_before-trans (group i).object (group i).number (group (i + suc d)).object (group (i + suc d)).number (group (suc (i + suc d))).object (group (suc (i + suc d))).number
      (far-before i d (omega (arith, l))) (next-before (i + suc d) (omega (arith, l))))

  -- a group in front has the lower key
  in-front : (i j : ℕ) → i < j → j < n → Before i j
  in-front i j l m =
      let e : i + suc (j - suc i) ≡ j = omega (arith, l) in
      subst (Before i) e (far-before i (j - suc i) (omega (arith, e, m)))

  module _ (object : ℕ) where
    -- the group at a place is in front of a number
    abbrev under : ℕ → ℕ → Bool
    under m i = group_under object m (group i)

    -- what is behind a group that is not in front of a number is not either
    behind-not : (m place j : ℕ) → under m place ≡ false → place ≤ j → j < n → under m j ≡ false
    behind-not m place j h l k = order-cases (under m j ≡ false) place j
        (λ a. test-cases (under m j ≡ false) (under m j)
        (λ t. absurd (clash h (pair_before-trans (group place).object (group place).number (group j).object (group j).number object m (in-front place j a k) t)))
        (λ t. t))
        (λ e. rw (← e) h)
        (λ a. absurd (omega (arith, a, l)))

    -- a group in front of a number is in front of every greater one
    under_more : (m k i : ℕ) → m ≤ k → under m i ≡ true → under k i ≡ true
    under_more m k i l t = pair_before-cases (under k i ≡ true) (group i).object (group i).number object m t
        (λ a. pair_before-first (group i).object (group i).number object k a)
        (λ e a. pair_before-second (group i).object (group i).number object k e (omega (arith, l, a)))

    -- where the search for a number ends, the groups are parted
    pub parted-leading : (m place : ℕ) → place ≡ leading (group_under object m) (groups_in n s) → place ≤ n → Parted (under m) n place
    parted-leading m place e l = record {
      most = l;
      front = λ j a. ap (group_under object m) (sym (group_at j (omega (arith, a, l)))) ∙ leading-passes (group_under object m) (group 0) (groups_in n s) j (rw (← e) a);
      behind = λ j a k. behind-not m place j (first-fails (omega (arith, a, k))) a k;
    }
      where
        len : length (groups_in n s) ≡ n
        len = length-decode_book decode_group group_bytes n s

        first-fails : place < n → under m place ≡ false
        first-fails b = ap (group_under object m) (sym (group_at place b)) ∙ rw e (leading-fails (group_under object m) (group 0) (groups_in n s) (omega (arith, b, e, len)))

    -- the same place parts the groups for a greater number, if the group there is not in front of that
    pub parted-later : (m k place : ℕ) → Parted (under m) n place → m ≤ k → (place < n → under k place ≡ false) → Parted (under k) n place
    parted-later m k place p l h = record {
      most = p.most;
      front = λ j a. under_more m k j l (p.front j a);
      behind = λ j a b. behind-not k place j (h (omega (arith, a, b))) a b;
    }

    -- behind the group of a number, the next place parts them for the next number
    pub parted-next : (m place : ℕ) → Parted (under m) n place → place < n → (group place).object ≡ object → (group place).number ≡ m → Parted (under (suc m)) n (suc place)
    parted-next m place p l o e = record {
      most = l;
      front = λ j a. order-cases (under (suc m) j ≡ true) j place
          (λ b. under_more m (suc m) j (omega arith) (p.front j b))
          (λ b. rw b (pair_before-second (group place).object (group place).number object (suc m) o (omega (arith, e))))
          (λ b. absurd (omega (arith, a, b)));
      behind = λ j a b. test-cases (under (suc m) j ≡ false) (under (suc m) j) (λ t. absurd (not-both j (in-front place j a b) t)) (λ t. t);
    }
      where
        not-both : (j : ℕ) → Before place j → under (suc m) j ≡ true → ⊥
        not-both j q t = pair_before-cases ⊥ (group place).object (group place).number (group j).object (group j).number q
            (λ a. pair_before-cases ⊥ (group j).object (group j).number object (suc m) t (λ b. omega (arith, a, b, o)) (λ b c. omega (arith, a, b, o)))
            (λ a c. pair_before-cases ⊥ (group j).object (group j).number object (suc m) t (λ b. omega (arith, a, b, o)) (λ b d. omega (arith, c, d, e)))

    -- a group with a key is the one
    is-parts : (m : ℕ) (g : Group) → group_is object m g ≡ true → (g.object ≡ object) × (g.number ≡ m)
    is-parts m g t = (eqb-true g.object object (and_left (eqb g.object object) (eqb g.number m) t), eqb-true g.number m (and_right (eqb g.object object) (eqb g.number m) t))

    -- a group in front of a number does not have it, nor a greater one
    front-other : (m k i : ℕ) → m ≤ k → under m i ≡ true → group_is object k (group i) ≡ false
    front-other m k i l t = test-cases (group_is object k (group i) ≡ false) (group_is object k (group i))
        (λ q. let e = is-parts k (group i) q in
        absurd (pair_before-cases ⊥ (group i).object (group i).number object m t (λ a. omega (arith, a, e.0)) (λ a b. omega (arith, l, b, e.1))))
        (λ q. q)

    -- the group of a number is found at the place that parts them for it
    pub found_here : (m place : ℕ) → Parted (under m) n place → place < n → (group place).object ≡ object → (group place).number ≡ m → find (group_is object m) (groups_in n s) ≡ some (group place)
    found_here m place p l o e =
        let len : length (groups_in n s) ≡ n = length-decode_book decode_group group_bytes n s in
        find_at (group_is object m) (groups_in n s) place (group 0) (omega (arith, l, len))
        (rw (group_at place l) (and_intro (eqb (group place).object object) (eqb (group place).number m) (eq-eqb _ _ o) (eq-eqb _ _ e)))
        (λ j a. rw (group_at j (omega (arith, a, l))) (front-other m m j (omega arith) (p.front j a)))
        ∙ ap some (group_at place l)

    -- there is none of a number that lies in front of the group there
    pub found_none : (m k place : ℕ) → Parted (under m) n place → m ≤ k → (place < n → pair_before object k (group place).object (group place).number ≡ true) → find (group_is object k) (groups_in n s) ≡ none
    found_none m k place p l h = find_none (group_is object k) (groups_in n s)
        (test-cases (any (group_is object k) (groups_in n s) ≡ false) (any (group_is object k) (groups_in n s)) (λ t. absurd (some-not (any-index (group_is object k) (groups_in n s) (group 0) t))) (λ t. t))
      where
        behind-other : (i : ℕ) → place ≤ i → i < n → pair_before object k (group i).object (group i).number ≡ true
        behind-other i a b = order-cases _ place i
            (λ c. pair_before-trans object k (group place).object (group place).number (group i).object (group i).number (h (omega (arith, a, b))) (in-front place i c b))
            (λ c. rw (← c) (h (omega (arith, a, b))))
            (λ c. absurd (omega (arith, a, c)))

        not_at : (i : ℕ) → i < n → group_is object k (group i) ≡ true → ⊥
        not_at i b t = test-cases ⊥ (ltb i place)
            (λ c. clash (front-other m k i l (p.front i (ltb-true i place c))) t)
            (λ c. let e = is-parts k (group i) t in
            let q : pair_before object k object k ≡ true = subst (λ (x : ℕ). pair_before object k object x ≡ true) e.1 (subst (λ (x : ℕ). pair_before object k x (group i).number ≡ true) e.0 (behind-other i (ltb-false i place c) b)) in
            clash (pair_before-not object k) q)

        some-not : (i : ℕ) × (i < length (groups_in n s)) × (group_is object k (get_or (groups_in n s) i (group 0)) ≡ true) → ⊥
        some-not (i, l, t) =
            let len : length (groups_in n s) ≡ n = length-decode_book decode_group group_bytes n s in
            let b : i < n = omega (arith, l, len) in
            not_at i b (ap (group_is object k) (sym (group_at i b)) ∙ t)

    -- ---- the slots of units

    -- of the units of the group there
    pub slotted-here : (u place : ℕ) → Placed n s object u place → place < n → (group place).object ≡ object → (group place).number ≡ u / group_units
        → slotted (groups_in n s) object u ≡ given (checksum_slot (group place) (u % group_units))
    unfolding slotted
    slotted-here u place p l o e = maybe-some false (λ g. given (checksum_slot g (u % group_units))) (find (group_is object (u / group_units)) (groups_in n s)) (group place) (found_here (u / group_units) place p l o e)

    -- and of those in front of it
    pub slotted-none : (a u place : ℕ) → Placed n s object a place → a ≤ u → (place < n → pair_before object (u / group_units) (group place).object (group place).number ≡ true)
        → slotted (groups_in n s) object u ≡ false
    unfolding slotted
    slotted-none a u place p l h = maybe-none false (λ g. given (checksum_slot g (u % group_units))) (find (group_is object (u / group_units)) (groups_in n s)) (found_none (a / group_units) (u / group_units) place p (omega (arith, l)) h)
