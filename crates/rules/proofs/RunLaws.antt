-- Laws of runs of blocks (specs/Allocation, W-208): what the lowest run of a group is, in document 02's words, and the first group that has one.
-- Assumes nothing.
use mathlib.Core.Path.{◌≡◌, refl, sym, ap, ◌∙◌}
use mathlib.Core.List.{◌∷◌, map, head?}
use mathlib.Core.Bool.{Bool, true, false}
use mathlib.Core.Option.{Option, none, some, none-ne-some, some-injective}
use Prim.Native.Nat.{ℕ, zero, suc, ◌+◌, ◌-◌, ◌≤◌, ◌<◌}
use native.Mathlib.Nat.{add-zero, add-suc, suc-add}
use native.Mathlib.Omega.{arith}
use lib.Dec.{eqb}
use borrow.Author.Tests.{eqb-true, eqb-false}
use Rattle.rules.specs.Lists.{range, all, find, filter, first_given}
use Rattle.rules.specs.Allocation.{group_start, group_end, run_in}
use Rattle.rules.proofs.ListLaws.{test-cases, clash, order-cases, all-range-at, all-range-of, find-yes, find-no, each_weaken}
use Rattle.rules.proofs.CountLaws.{same_test, filter-each, filter-nothing, each-range}

-- ---- the first number of a range that passes a test

module _ (f : ℕ → Bool) where
  -- there is none where the test fails at each
  find-nothing : (first n : ℕ) → ((b : ℕ) → first ≤ b → b < first + n → f b ≡ false) → find f (range first n) ≡ none
  unfolding find
  find-nothing first n h = ap head? (filter-nothing f (each_weaken (λ b r. h b r.0 r.1) (each-range first n)))

  -- it is the one before which the test fails at each
  find-lowest : (first n b : ℕ) → first ≤ b → b < first + n → f b ≡ true → ((c : ℕ) → first ≤ c → c < b → f c ≡ false) → find f (range first n) ≡ some b
  unfolding range
  find-lowest first zero b p q t h = absurd (omega arith)
  find-lowest first (suc n) b p q t h =
      test-cases (find f (first ∷ range (suc first) n) ≡ some b) (eqb first b)
      (λ e. let d : first ≡ b = eqb-true first b e in find-yes f first (range (suc first) n) (rw d t) ∙ ap (λ (x : ℕ). some x) d)
      (λ e. let d : first ≡ b → ⊥ = eqb-false first b e in
      find-no f first (range (suc first) n) (h first (omega arith) (omega arith)) ∙ find-lowest (suc first) n b (omega arith) (omega arith) t (λ c u v. h c (omega arith) v))

  -- the one that is found passes, and none before it does
  find-passed : (first n b : ℕ) → find f (range first n) ≡ some b → (first ≤ b) × (b < first + n) × (f b ≡ true) × ((c : ℕ) → first ≤ c → c < b → f c ≡ false)
  unfolding range
  find-passed first zero b e = absurd (none-ne-some b (unfold find filter in e))
  find-passed first (suc n) b e =
      test-cases ((first ≤ b) × (b < first + suc n) × (f b ≡ true) × ((c : ℕ) → first ≤ c → c < b → f c ≡ false)) (f first)
      (λ t. let d : first ≡ b = some-injective first b (sym (find-yes f first (range (suc first) n) t) ∙ e) in
      (omega arith, omega arith, rw (← d) t, λ c u v. absurd (omega arith)))
      (λ t. let r : (suc first ≤ b) × (b < suc first + n) × (f b ≡ true) × ((c : ℕ) → suc first ≤ c → c < b → f c ≡ false) = find-passed (suc first) n b (sym (find-no f first (range (suc first) n) t) ∙ e) in
      (omega arith, omega arith, r.2, λ c u v. order-cases (f c ≡ false) c first (λ l. absurd (omega arith)) (λ q. rw q t) (λ l. r.3 c (omega arith) v)))

  -- where none is found the test fails at each
  find-failed : (first n : ℕ) → find f (range first n) ≡ none → (b : ℕ) → first ≤ b → b < first + n → f b ≡ false
  unfolding range
  find-failed first zero e b p q = absurd (omega arith)
  find-failed first (suc n) e b p q =
      test-cases (f b ≡ false) (f first)
      (λ t. absurd (none-ne-some first (sym e ∙ find-yes f first (range (suc first) n) t)))
      (λ t. order-cases (f b ≡ false) b first (λ l. absurd (omega arith)) (λ d. rw d t)
      (λ l. find-failed (suc first) n (sym (find-no f first (range (suc first) n) t) ∙ e) b (omega arith) (omega arith)))

-- ---- the first of several that is there

-- where one of them is there one is the first
given-first : {A : Type 0} (f : ℕ → Option A) (first n i : ℕ) (x : A) → i < n → f (first + i) ≡ some x → first_given (map f (range first n)) ≡ none → ⊥
unfolding range first_given
given-first f first zero i x l e h = omega arith
given-first f first (suc n) zero x l e h =
    let d : f first ≡ some x = ap f (sym (add-zero first)) ∙ e in
    none-ne-some x (sym (rw d at h))
given-first {A = A} f first (suc n) (suc i) x l e h =
    go (f first) (λ k. given-first f (suc first) n i x (omega arith) (ap f (suc-add first i ∙ sym (add-suc first i)) ∙ e) k) h
  where
    go : (o : Option A) → (first_given (map f (range (suc first) n)) ≡ none → ⊥) → first_given (o ∷ map f (range (suc first) n)) ≡ none → ⊥
    go none r h = r h
    go (some y) r h = none-ne-some y (sym h)

module _ {A : Type 0} (f : ℕ → Option A) where
  -- none is where none of them is
  pub first-none : (first n : ℕ) → ((i : ℕ) → i < n → f (first + i) ≡ none) → first_given (map f (range first n)) ≡ none
  unfolding range first_given
  first-none first zero h = refl
  first-none first (suc n) h =
      let e : f first ≡ none = ap f (sym (add-zero first)) ∙ h 0 (omega arith) in
      rw e (first-none (suc first) n (λ i l. ap f (suc-add first i ∙ sym (add-suc first i)) ∙ h (suc i) (omega arith)))

  -- it is the one before which none is
  pub first-is : (first n i : ℕ) (x : A) → i < n → f (first + i) ≡ some x → ((j : ℕ) → j < i → f (first + j) ≡ none) → first_given (map f (range first n)) ≡ some x
  unfolding range first_given
  first-is first zero i x l e h = absurd (omega arith)
  first-is first (suc n) zero x l e h =
      let d : f first ≡ some x = ap f (sym (add-zero first)) ∙ e in
      rw d refl
  first-is first (suc n) (suc i) x l e h =
      let d : f first ≡ none = ap f (sym (add-zero first)) ∙ h 0 (omega arith) in
      rw d
      (first-is (suc first) n i x (omega arith) (ap f (suc-add first i ∙ sym (add-suc first i)) ∙ e)
      (λ j m. ap f (suc-add first j ∙ sym (add-suc first j)) ∙ h (suc j) (omega arith)))

  -- the one that is first, by its turn
  pub record FirstAt (first n : ℕ) (x : A) : Type 0 where
    pub turn : ℕ
    pub inside : turn < n
    pub here : f (first + turn) ≡ some x
    pub earlier : (j : ℕ) → j < turn → f (first + j) ≡ none

  -- where the first of them is there
  turn-now : (first n : ℕ) (x : A) → f first ≡ some x → FirstAt first (suc n) x
  turn-now first n x e = record { turn = 0; inside = omega arith; here = ap f (add-zero first) ∙ e; earlier = λ j m. absurd (omega arith) }

  -- where it is not
  turn-later : (first n : ℕ) (x : A) → f first ≡ none → FirstAt (suc first) n x → FirstAt first (suc n) x
  turn-later first n x e s =
      record {
        turn = suc s.turn;
        inside = let l : s.turn < n = s.inside in omega arith;
        here = ap f (add-suc first s.turn ∙ sym (suc-add first s.turn)) ∙ s.here;
        earlier = λ j m. before j m;
      }
    where
      before : (j : ℕ) → j < suc s.turn → f (first + j) ≡ none
      before zero m = ap f (add-zero first) ∙ e
      before (suc j) m = ap f (add-suc first j ∙ sym (suc-add first j)) ∙ s.earlier j (omega arith)

  -- the one that is first has its turn
  pub first-at : (first n : ℕ) (x : A) → first_given (map f (range first n)) ≡ some x → FirstAt first n x
  unfolding range first_given
  first-at first zero x e = absurd (none-ne-some x e)
  first-at first (suc n) x e = go (f first) refl (λ d. first-at (suc first) n x d) e
    where
      go : (o : Option A) → f first ≡ o → (first_given (map f (range (suc first) n)) ≡ some x → FirstAt (suc first) n x) → first_given (o ∷ map f (range (suc first) n)) ≡ some x → FirstAt first (suc n) x
      go none d r e = turn-later first n x d (r e)
      go (some y) d r e = turn-now first n x (d ∙ e)

  -- where none is first none is there
  pub first-no : (first n : ℕ) → first_given (map f (range first n)) ≡ none → (i : ℕ) → i < n → f (first + i) ≡ none
  first-no first n e i l = go (f (first + i)) refl
    where
      go : (o : Option A) → f (first + i) ≡ o → f (first + i) ≡ none
      go none d = d
      go (some x) d = absurd (given-first f first n i x l d e)

-- ---- the lowest run of a group

-- tests that agree from a number on
all_same : (f g : ℕ → Bool) (first n : ℕ) → ((i : ℕ) → i < n → f (first + i) ≡ g (first + i)) → all f (range first n) ≡ all g (range first n)
all_same f g first n h =
    same_test (all f (range first n)) (all g (range first n))
    (λ e. all-range-of g first n (λ i l. sym (h i l) ∙ all-range-at f first n e i l)) (λ e. all-range-of f first n (λ i l. h i l ∙ all-range-at g first n e i l))

-- no n free blocks lie side by side in a group
abbrev pub NoRun : ℕ → (ℕ → Bool) → ℕ → ℕ → Type 0
NoRun blocks free n g = (b : ℕ) → group_start g ≤ b → b + n ≤ group_end blocks g → all free (range b n) ≡ false

-- Block b is the first of a group's lowest run of n free blocks or more: the n from it on are free and lie in the group, the one before it in the group
-- is not free, and no lower n side by side are.
pub record LowestRun (blocks : ℕ) (free : ℕ → Bool) (n g b : ℕ) : Type 0 where
  pub low : group_start g ≤ b
  pub high : b + n ≤ group_end blocks g
  pub run : all free (range b n) ≡ true
  pub begins : (c : ℕ) → group_start g ≤ c → suc c ≡ b → free c ≡ false
  pub lowest : (c : ℕ) → group_start g ≤ c → c < b → all free (range c n) ≡ false

-- the block before the lowest n is not free: else the n from it on would be
run-begins : (free : ℕ → Bool) (n c : ℕ) → all free (range (suc c) n) ≡ true → all free (range c n) ≡ false → free c ≡ false
run-begins free n c h k =
    test-cases (free c ≡ false) (free c)
    (λ t. absurd (clash k (all-range-of free c n (λ i l. each t i l)))) (λ t. t)
  where
    each : free c ≡ true → (i : ℕ) → i < n → free (c + i) ≡ true
    each t zero l = ap free (add-zero c) ∙ t
    each t (suc i) l = ap free (add-suc c i ∙ sym (suc-add c i)) ∙ all-range-at free (suc c) n h i (omega arith)

module _ (blocks : ℕ) (free : ℕ → Bool) (n g : ℕ) (w : group_start g ≤ group_end blocks g) where
  -- what is found in a group is its lowest run
  pub run-right : (b : ℕ) → run_in blocks free n g ≡ some b → LowestRun blocks free n g b
  unfolding run_in
  run-right b e =
      let s : ℕ = group_start g in
      let f : ℕ → Bool = λ c. all free (range c n) in
      let r : (s ≤ b) × (b < s + (suc (group_end blocks g - s) - n)) × (f b ≡ true) × ((c : ℕ) → s ≤ c → c < b → f c ≡ false) = find-passed f s (suc (group_end blocks g - s) - n) b e in
      record {
        low = r.0;
        high = let l : group_start g ≤ b = r.0 in let m : b < group_start g + (suc (group_end blocks g - group_start g) - n) = r.1 in omega arith;
        run = r.2;
        begins = λ c l d. run-begins free n c (rw d r.2) (r.3 c l (omega arith));
        lowest = r.3;
      }

  -- n free blocks that lie in the group, and before which no n are, are found
  pub run_at : (b : ℕ) → group_start g ≤ b → b + n ≤ group_end blocks g → all free (range b n) ≡ true → ((c : ℕ) → group_start g ≤ c → c < b → all free (range c n) ≡ false) → run_in blocks free n g ≡ some b
  unfolding run_in
  run_at b l h r k = find-lowest (λ c. all free (range c n)) (group_start g) (suc (group_end blocks g - group_start g) - n) b l (omega arith) r k

  -- so that there is no other lowest run
  pub run_only : (b : ℕ) → LowestRun blocks free n g b → run_in blocks free n g ≡ some b
  run_only b r = run_at b r.low r.high r.run r.lowest

  -- where nothing is found there is none
  pub run_none : run_in blocks free n g ≡ none → NoRun blocks free n g
  unfolding run_in
  run_none e b l h = find-failed (λ c. all free (range c n)) (group_start g) (suc (group_end blocks g - group_start g) - n) e b l (omega arith)

  -- and where there is none nothing is found
  pub run-no : NoRun blocks free n g → run_in blocks free n g ≡ none
  unfolding run_in
  run-no h = find-nothing (λ c. all free (range c n)) (group_start g) (suc (group_end blocks g - group_start g) - n) (λ b l m. h b l (omega arith))

  -- it is the same where the same blocks of the store are free
  pub run-same : (also : ℕ → Bool) → ((b : ℕ) → b < blocks → free b ≡ also b) → run_in blocks free n g ≡ run_in blocks also n g
  unfolding run_in find
  run-same also h =
      ap head?
      (filter-each (λ b. all free (range b n)) (λ b. all also (range b n))
      (each_weaken {P = λ b. (group_start g ≤ b) × (b < group_start g + (suc (group_end blocks g - group_start g) - n))} (λ b r. same b r.0 r.1)
      (each-range (group_start g) (suc (group_end blocks g - group_start g) - n))))
    where
      same : (b : ℕ) → group_start g ≤ b → b < group_start g + (suc (group_end blocks g - group_start g) - n) → all free (range b n) ≡ all also (range b n)
      same b l m = all_same free also b n (λ i k. h (b + i) (let e : group_end blocks g ≤ blocks = end-most in omega arith))
        where
          end-most : group_end blocks g ≤ blocks
          end-most = unfold group_end in omega arith
