-- Laws of the search by halves, over any test of the places: it takes few rounds, those it looks at decide, and where the test parts the places it finds
-- where. Behind them the same for a search under way.
-- Assumes nothing.
use mathlib.Core.Path.{◌≡◌, refl, sym, ap, ◌∙◌}
use mathlib.Core.Bool.{Bool, true, false}
use mathlib.Core.List.{List, [], ◌∷◌}
use Prim.Native.Nat.{ℕ, zero, suc, ◌+◌, ◌-◌, ◌*◌, ◌/◌, ◌^◌, ◌≤◌, ◌<◌}
use native.Mathlib.Decide.{ℕ_discrete}
use native.Mathlib.Nat.{pow-suc, mul_comm, one-le-pow}
use native.Mathlib.Omega.{arith}
use borrow.Author.Tests.{eqb-true, eqb-false, eq-eqb, ne_eqb}
use lib.Dec.{eqb}
use lib.ListN.{length}
use Rattle.rules.specs.Lists.{pick◌then◌else◌}
use Rattle.rules.specs.Sizes.{most_places}
use Rattle.rules.proofs.ListLaws.{if-true, if-false, if-cases, test-cases, clash, Each, each_more}
use Rattle.halving.specs.Halving.{looked_in, looked, ends_at, Parted}

-- ---- one round

-- a range that is not empty
some_left : (size : ℕ) → eqb size 0 ≡ false → 0 < size
some_left size e = let n = eqb-false size 0 e in omega arith

module _ (f : ℕ → Bool) where
  -- nothing is looked at in an empty range
  looked-none : (rounds low : ℕ) → looked_in f rounds low 0 ≡ []
  unfolding looked_in
  looked-none zero low = refl
  looked-none (suc rounds) low = if-true (eqb 0 0) [] _ (eq-eqb 0 0 refl)

  -- in any other the middle one is; where it passes the search goes on behind it
  looked-low : (rounds low size : ℕ) → 0 < size → f (low + size / 2) ≡ true
      → looked_in f (suc rounds) low size ≡ ((low + size / 2) ∷ looked_in f rounds (low + size / 2 + 1) (size - size / 2 - 1))
  unfolding looked_in
  looked-low rounds low size l t = if-false (eqb size 0) [] _ (ne_eqb size 0 (λ e. omega arith)) ∙ rw (if-true (f (low + size / 2)) (looked_in f rounds (low + size / 2 + 1) (size - size / 2 - 1)) (looked_in f rounds low (size / 2)) t) refl

  -- and else in front of it
  looked-high : (rounds low size : ℕ) → 0 < size → f (low + size / 2) ≡ false → looked_in f (suc rounds) low size ≡ ((low + size / 2) ∷ looked_in f rounds low (size / 2))
  unfolding looked_in
  looked-high rounds low size l t = if-false (eqb size 0) [] _ (ne_eqb size 0 (λ e. omega arith)) ∙ rw (if-false (f (low + size / 2)) (looked_in f rounds (low + size / 2 + 1) (size - size / 2 - 1)) (looked_in f rounds low (size / 2)) t) refl

  -- a place that passes moves the end behind it
  ends_low : (low i : ℕ) (is : List ℕ) → f i ≡ true → ends_at f low (i ∷ is) ≡ ends_at f (i + 1) is
  unfolding ends_at
  ends_low low i is t = rw (if-true (f i) (i + 1) low t) refl

  -- one that does not leaves it
  ends-high : (low i : ℕ) (is : List ℕ) → f i ≡ false → ends_at f low (i ∷ is) ≡ ends_at f low is
  unfolding ends_at
  ends-high low i is t = rw (if-false (f i) (i + 1) low t) refl

  -- ---- a range

  -- what is looked at in a range does not depend on the rounds that are given, if they are enough
  looked-enough : (k m low size : ℕ) → size ≤ k → size ≤ m → looked_in f k low size ≡ looked_in f m low size
  looked-enough zero m low size l j = let e : size ≡ 0 = omega arith in rw e (looked-none zero low ∙ sym (looked-none m low))
  looked-enough (suc k) zero low size l j = let e : size ≡ 0 = omega arith in rw e (looked-none (suc k) low ∙ sym (looked-none zero low))
  looked-enough (suc k) (suc m) low size l j =
      test-cases (looked_in f (suc k) low size ≡ looked_in f (suc m) low size) (eqb size 0)
      (λ e. rw (eqb-true size 0 e) (looked-none (suc k) low ∙ sym (looked-none (suc m) low)))
      (λ e. let z : 0 < size = some_left size e in
      test-cases (looked_in f (suc k) low size ≡ looked_in f (suc m) low size) (f (low + size / 2))
      (λ t. looked-low k low size z t ∙ ap (λ (is : List ℕ). (low + size / 2) ∷ is) (looked-enough k m (low + size / 2 + 1) (size - size / 2 - 1) (omega arith) (omega arith)) ∙ sym (looked-low m low size z t))
      (λ t. looked-high k low size z t ∙ ap (λ (is : List ℕ). (low + size / 2) ∷ is) (looked-enough k m low (size / 2) (omega arith) (omega arith)) ∙ sym (looked-high m low size z t)))

  -- fewer than 2^k places take at most k rounds: the place looked at leaves the range, so that at most half of the others are left
  few-looked : (rounds low size k : ℕ) → size < 2 ^ k → length (looked_in f rounds low size) ≤ k
  few-looked zero low size k l = unfold looked_in in omega arith
  few-looked (suc rounds) low size zero l = let e : size ≡ 0 = omega arith in rw (e, looked-none (suc rounds) low) (omega arith)
  few-looked (suc rounds) low size (suc k) l =
      let p : 2 ^ suc k ≡ 2 * 2 ^ k = pow-suc 2 k ∙ mul_comm (2 ^ k) 2 in
      test-cases (length (looked_in f (suc rounds) low size) ≤ suc k) (eqb size 0)
      (λ e. rw (eqb-true size 0 e, looked-none (suc rounds) low) (omega arith))
      (λ e. let z : 0 < size = some_left size e in
      test-cases (length (looked_in f (suc rounds) low size) ≤ suc k) (f (low + size / 2))
      (λ t. let r = few-looked rounds (low + size / 2 + 1) (size - size / 2 - 1) k (omega arith) in rw (looked-low rounds low size z t) (omega (arith, r)))
      (λ t. let r = few-looked rounds low (size / 2) k (omega arith) in rw (looked-high rounds low size z t) (omega (arith, r))))

  -- ---- what the answer means

  -- a place that does not pass has none behind it that does
  abbrev pub Falls : ℕ → Type 0
  Falls n = (i j : ℕ) → i < j → j < n → f j ≡ true → f i ≡ true

  -- it is enough to know it of neighbours
  pub falls-steps : (n : ℕ) → ((i : ℕ) → suc i < n → f (suc i) ≡ true → f i ≡ true) → Falls n
  falls-steps n h i zero l k t = absurd (omega arith)
  falls-steps n h i (suc j) l k t =
      let here : f j ≡ true = h j k t in
      test-cases (f i ≡ true) (eqb i j) (λ e. rw (eqb-true i j e) here) (λ e. let d = eqb-false i j e in falls-steps n h i j (omega arith) (omega arith) here)

  -- then all in front of one that passes do
  front-passes : (n i : ℕ) → Falls n → i < n → f i ≡ true → (j : ℕ) → j < i + 1 → f j ≡ true
  front-passes n i falls l t j k = go (ℕ_discrete j i)
    where
      go : Dec (j ≡ i) → f j ≡ true
      go (yes e) = rw e t
      go (no e) = falls j i (omega arith) l t

  -- and none behind one that does not
  behind-fails : (n i : ℕ) → Falls n → f i ≡ false → (j : ℕ) → i ≤ j → j < n → f j ≡ false
  behind-fails n i falls t j k l = go (ℕ_discrete j i)
    where
      go : Dec (j ≡ i) → f j ≡ false
      go (yes e) = rw e t
      go (no e) = test-cases (f j ≡ false) (f j) (λ p. absurd (clash t (falls i j (omega arith) l p))) (λ p. p)

  -- a range in front of which all pass and behind which none does
  parted-in : (rounds low size n : ℕ) → Falls n → size ≤ rounds → low + size ≤ n → ((j : ℕ) → j < low → f j ≡ true) → ((j : ℕ) → low + size ≤ j → j < n → f j ≡ false)
      → Parted f n (ends_at f low (looked_in f rounds low size))
  unfolding ends_at
  parted-in zero low size n falls e l front behind =
      let z : size ≡ 0 = omega arith in
      rw (z, looked-none zero low) (record { most = omega arith; front = front; behind = λ j k m. behind j (omega arith) m })
  parted-in (suc rounds) low size n falls e l front behind =
      test-cases (Parted f n (ends_at f low (looked_in f (suc rounds) low size))) (eqb size 0)
      (λ t. let z : size ≡ 0 = eqb-true size 0 t in
      rw (z, looked-none (suc rounds) low) (record { most = omega arith; front = front; behind = λ j k m. behind j (omega arith) m }))
      (λ t. let z : 0 < size = some_left size t in
      test-cases (Parted f n (ends_at f low (looked_in f (suc rounds) low size))) (f (low + size / 2))
      (λ p. rw (looked-low rounds low size z p, ends_low low (low + size / 2) (looked_in f rounds (low + size / 2 + 1) (size - size / 2 - 1)) p)
      (parted-in rounds (low + size / 2 + 1) (size - size / 2 - 1) n falls (omega arith) (omega arith)
      (front-passes n (low + size / 2) falls (omega arith) p) (λ j k m. behind j (omega arith) m)))
      (λ p. rw (looked-high rounds low size z p, ends-high low (low + size / 2) (looked_in f rounds low (size / 2)) p)
      (parted-in rounds low (size / 2) n falls (omega arith) (omega arith) front (λ j k m. behind-fails n (low + size / 2) falls p j k m))))

  -- the search parts the places
  pub parted : (n : ℕ) → Falls n → Parted f n (ends_at f 0 (looked f n))
  unfolding looked
  parted n falls = parted-in n 0 n n falls (omega arith) (omega arith) (λ j l. absurd (omega arith)) (λ j l m. absurd (omega arith))

  -- whatever the test, it ends in the book
  ends-in : (rounds low size : ℕ) → ends_at f low (looked_in f rounds low size) ≤ low + size
  unfolding ends_at
  ends-in zero low size = unfold looked_in in omega arith
  ends-in (suc rounds) low size =
      test-cases (ends_at f low (looked_in f (suc rounds) low size) ≤ low + size) (eqb size 0)
      (λ t. rw (eqb-true size 0 t, looked-none (suc rounds) low) (omega arith))
      (λ t. let z : 0 < size = some_left size t in
      test-cases (ends_at f low (looked_in f (suc rounds) low size) ≤ low + size) (f (low + size / 2))
      (λ p. let r = ends-in rounds (low + size / 2 + 1) (size - size / 2 - 1) in
      rw (looked-low rounds low size z p, ends_low low (low + size / 2) (looked_in f rounds (low + size / 2 + 1) (size - size / 2 - 1)) p) (omega (arith, r)))
      (λ p. let r = ends-in rounds low (size / 2) in
      rw (looked-high rounds low size z p, ends-high low (low + size / 2) (looked_in f rounds low (size / 2)) p) (omega (arith, r))))

  -- of n places at the last or before it
  pub ends-within : (n : ℕ) → ends_at f 0 (looked f n) ≤ n
  unfolding looked
  ends-within n = let r = ends-in n 0 n in omega (arith, r)

  -- 1,048,575 are the most places that take 20 rounds at most
  pub twenty : (n : ℕ) → n ≤ most_places → length (looked f n) ≤ 20
  unfolding looked
  twenty n l = few-looked n 0 n 20 (omega arith)

  -- no search of numbers of 64 bits takes more than 64
  sixty-four : (n : ℕ) → n < 2 ^ 64 → length (looked f n) ≤ 64
  unfolding looked
  sixty-four n l = few-looked n 0 n 64 l

-- a test that answers the same of n places is parted at the same one
pub parted-as : (f g : ℕ → Bool) (n place : ℕ) → ((i : ℕ) → i < n → f i ≡ g i) → Parted f n place → Parted g n place
parted-as f g n place e h = record {
  most = h.most;
  front = λ j l. sym (e j (omega (arith, h.most))) ∙ h.front j l;
  behind = λ j l k. sym (e j k) ∙ h.behind j l k;
}

-- ---- the bound is met

-- one place fewer than 2^k takes k rounds where every place passes
all_pass : (k rounds low : ℕ) → k ≤ rounds → length (looked_in (λ i. true) rounds low (2 ^ k - 1)) ≡ k
all_pass zero rounds low l = rw (looked-none (λ i. true) rounds low) refl
all_pass (suc k) zero low l = absurd (omega arith)
all_pass (suc k) (suc rounds) low l =
    let size : ℕ = 2 ^ suc k - 1 in
    let p : 2 ^ suc k ≡ 2 * 2 ^ k = pow-suc 2 k ∙ mul_comm (2 ^ k) 2 in
    let o : 1 ≤ 2 ^ k = one-le-pow k 2 (omega arith) in
    let h : size - size / 2 - 1 ≡ 2 ^ k - 1 = omega arith in
    rw (looked-low (λ i. true) rounds low size (omega arith) refl, h) (ap suc (all_pass k rounds (low + size / 2 + 1) (omega arith)))

-- 2^k places take one more where none passes
none_passes : (k rounds low : ℕ) → suc k ≤ rounds → length (looked_in (λ i. false) rounds low (2 ^ k)) ≡ suc k
none_passes k zero low l = absurd (omega arith)
none_passes zero (suc rounds) low l = rw (looked-high (λ i. false) rounds low 1 (omega arith) refl, looked-none (λ i. false) rounds low) refl
none_passes (suc k) (suc rounds) low l =
    let p : 2 ^ suc k ≡ 2 * 2 ^ k = pow-suc 2 k ∙ mul_comm (2 ^ k) 2 in
    let o : 1 ≤ 2 ^ k = one-le-pow k 2 (omega arith) in
    let h : 2 ^ suc k / 2 ≡ 2 ^ k = omega arith in
    rw (looked-high (λ i. false) rounds low (2 ^ suc k) (omega arith) refl, h) (ap suc (none_passes k rounds low (omega arith)))

-- so that a full book takes 20 rounds, and no lower bound holds
pub full-book : length (looked (λ i. true) most_places) ≡ 20
unfolding looked
full-book = all_pass 20 most_places 0 (omega arith)

-- and one place more would take 21
pub one_more : length (looked (λ i. false) (most_places + 1)) ≡ 21
unfolding looked
one_more = none_passes 20 (most_places + 1) 0 (omega arith)

-- ---- nothing but the places looked at decides

-- what holds of each place holds of the first
each_first : {P : ℕ → Type 0} {i : ℕ} {is : List ℕ} → Each P (i ∷ is) → P i
each_first (each_more p h) = p

-- and of each behind it
each-rest : {P : ℕ → Type 0} {i : ℕ} {is : List ℕ} → Each P (i ∷ is) → Each P is
each-rest (each_more p h) = h

-- another test that answers the same there looks at the same places
looked-same-in : (f g : ℕ → Bool) (rounds low size : ℕ) → Each (λ i. f i ≡ g i) (looked_in f rounds low size) → looked_in g rounds low size ≡ looked_in f rounds low size
looked-same-in f g zero low size h = unfold looked_in in refl
looked-same-in f g (suc rounds) low size h =
    test-cases (looked_in g (suc rounds) low size ≡ looked_in f (suc rounds) low size) (eqb size 0)
    (λ e. rw (eqb-true size 0 e) (looked-none g (suc rounds) low ∙ sym (looked-none f (suc rounds) low)))
    (λ e. let z : 0 < size = some_left size e in
    test-cases (looked_in g (suc rounds) low size ≡ looked_in f (suc rounds) low size) (f (low + size / 2))
    (λ t. let k = rw (looked-low f rounds low size z t) at h in
    looked-low g rounds low size z (sym (each_first k) ∙ t)
    ∙ ap (λ (is : List ℕ). (low + size / 2) ∷ is) (looked-same-in f g rounds (low + size / 2 + 1) (size - size / 2 - 1) (each-rest k)) ∙ sym (looked-low f rounds low size z t))
    (λ t. let k = rw (looked-high f rounds low size z t) at h in
    looked-high g rounds low size z (sym (each_first k) ∙ t)
    ∙ ap (λ (is : List ℕ). (low + size / 2) ∷ is) (looked-same-in f g rounds low (size / 2) (each-rest k)) ∙ sym (looked-high f rounds low size z t)))

-- of all places
pub looked-same : (f g : ℕ → Bool) (n : ℕ) → Each (λ i. f i ≡ g i) (looked f n) → looked g n ≡ looked f n
unfolding looked
looked-same f g n h = looked-same-in f g n 0 n h

-- and ends where this one does
pub ends_same : (f g : ℕ → Bool) (low : ℕ) (is : List ℕ) → Each (λ i. f i ≡ g i) is → ends_at g low is ≡ ends_at f low is
unfolding ends_at
ends_same f g low [] h = refl
ends_same f g low (i ∷ is) h = rw (← each_first h) (ends_same f g (pick f i then i + 1 else low) is (each-rest h))

-- what holds where it began, and behind each place looked at, holds where it ends
pub ends-each : (P Q : ℕ → Type 0) (f : ℕ → Bool) → ((i : ℕ) → P i → Q (i + 1)) → (low : ℕ) (is : List ℕ) → Q low → Each P is → Q (ends_at f low is)
unfolding ends_at
ends-each P Q f step low [] q h = q
ends-each P Q f step low (i ∷ is) q h = ends-each P Q f step (pick f i then i + 1 else low) is (if-cases Q (f i) (i + 1) low (λ t. step i (each_first h)) (λ t. q)) (each-rest h)

-- ---- a search under way

-- so many rounds are done, and those from low to high are left
pub record Halving (f : ℕ → Bool) (n low high rounds : ℕ) : Type 0 where
  pub looks : rounds + length (looked_in f (high - low) low (high - low)) ≡ length (looked f n)
  pub ends : ends_at f low (looked_in f (high - low) low (high - low)) ≡ ends_at f 0 (looked f n)

module _ (f : ℕ → Bool) where
  -- the first round in a range, where its record passes
  range-low : (low size : ℕ) → 0 < size → f (low + size / 2) ≡ true → looked_in f size low size ≡ ((low + size / 2) ∷ looked_in f (size - size / 2 - 1) (low + size / 2 + 1) (size - size / 2 - 1))
  range-low low zero l t = absurd (omega arith)
  range-low low (suc r) l t =
      looked-low f r low (suc r) l t
      ∙ ap (λ (is : List ℕ). (low + suc r / 2) ∷ is) (looked-enough f r (suc r - suc r / 2 - 1) (low + suc r / 2 + 1) (suc r - suc r / 2 - 1) (omega arith) (omega arith))

  -- and where it does not
  range-high : (low size : ℕ) → 0 < size → f (low + size / 2) ≡ false → looked_in f size low size ≡ ((low + size / 2) ∷ looked_in f (size / 2) low (size / 2))
  range-high low zero l t = absurd (omega arith)
  range-high low (suc r) l t =
      looked-high f r low (suc r) l t ∙ ap (λ (is : List ℕ). (low + suc r / 2) ∷ is) (looked-enough f r (suc r / 2) low (suc r / 2) (omega arith) (omega arith))

  module _ (n : ℕ) where
    -- none is done
    pub halving-none : Halving f n 0 n 0
    unfolding looked
    halving-none = let e : n - 0 ≡ n = omega arith in record { looks = rw e (omega arith); ends = rw e refl }

    module _ (low high rounds : ℕ) (t : Bool) (l : low < high) (h : Halving f n low high rounds) (e : t ≡ f (low + (high - low) / 2)) where
      -- the record in the middle passed
      pub halving-low : t ≡ true → Halving f n (low + (high - low) / 2 + 1) high (rounds + 1)
      halving-low p =
          let q : f (low + (high - low) / 2) ≡ true = sym e ∙ p in
          let s = range-low low (high - low) (omega arith) q in
          let z : high - (low + (high - low) / 2 + 1) ≡ high - low - (high - low) / 2 - 1 = omega arith in
          let a = rw s at h.looks in
          record { looks = rw z (omega (arith, a)); ends = rw z (sym (ends_low f low (low + (high - low) / 2) _ q) ∙ (rw s at h.ends)) }

      -- it did not
      pub halving-high : t ≡ false → Halving f n low (low + (high - low) / 2) (rounds + 1)
      halving-high p =
          let q : f (low + (high - low) / 2) ≡ false = sym e ∙ p in
          let s = range-high low (high - low) (omega arith) q in
          let z : low + (high - low) / 2 - low ≡ (high - low) / 2 = omega arith in
          let a = rw s at h.looks in
          record { looks = rw z (omega (arith, a)); ends = rw z (sym (ends-high f low (low + (high - low) / 2) _ q) ∙ (rw s at h.ends)) }

    module _ (low high rounds : ℕ) (h : Halving f n low high rounds) where
      -- the rounds can be counted
      pub halving-count : n < 2 ^ 64 → rounds + 1 < 2 ^ 32
      halving-count l = omega (arith, h.looks, sixty-four f n l)

      -- where nothing is left, the search is at its end
      pub halving-ends : high ≤ low → low ≡ ends_at f 0 (looked f n)
      unfolding ends_at
      halving-ends l = let z : high - low ≡ 0 = omega arith in rw (z, looked-none f 0 low) at h.ends

      -- and has looked at a record in each round
      pub halving-looks : high ≤ low → rounds ≡ length (looked f n)
      halving-looks l =
          let z : high - low ≡ 0 = omega arith in
          let a = rw (z, looked-none f 0 low) at h.looks in
          omega (arith, a)

      -- at most 20, then
      pub halving-twenty : high ≤ low → n ≤ most_places → rounds ≤ 20
      halving-twenty l m = rw (halving-looks l) (twenty f n m)
