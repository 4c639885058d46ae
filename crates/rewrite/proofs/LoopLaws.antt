-- The units of a change planned one after another.
-- Assumes nothing.
use mathlib.Core.Path.{◌≡◌, refl, sym, ap, ◌∙◌}
use mathlib.Core.List.{List, [], ◌∷◌, ◌++◌}
use mathlib.Core.Bool.{true}
use Prim.Native.Nat.{ℕ, suc, ◌+◌, ◌-◌, ◌*◌, ◌≤◌, ◌<◌}
use native.Mathlib.Decide.{dec_lt}
use native.Mathlib.Omega.{arith}
use lib.ListN.{length, take, drop, get_or, length-drop, drop_of_length-le}
use lib.Seq.{drop-cons, drop-drop, take-take, take_all}
use Rattle.rules.specs.Sizes.{unit_blocks}
use Rattle.rules.specs.Bytes.{part}
use Rattle.rules.specs.Store.{Volume}
use Rattle.rules.specs.Refusal.{Refusal}
use Rattle.rules.specs.Units.{Change, touches}
use Rattle.rules.specs.Kept.{blocks_after}
use Rattle.rules.specs.Rewrite.{Progress, Rewritten, Step, Plan, rewrite_unit, after, prepend, and_then, rewrite_units}
use Rattle.rules.specs.Rewrite.Step.{stopped, untouched, rewritten}
use Rattle.rules.specs.Rewrite.Plan.{refused, planned}
use Rattle.rules.specs.Answers.{step_number, plan_number}
use Rattle.rules.proofs.ListLaws.{clash}
use Rattle.rules.proofs.ByteLaws.{drop-take, length_part, part_none, part-patch-before}
use Rattle.words.proofs.RangeLaws.{part-snoc}
use Rattle.history.proofs.UnitLaws.{valid-blocks}
use Rattle.rewrite.specs.Plan.{laid_unit, laid_units, prepend_all}
use Rattle.rewrite.specs.Answers.{Carries, Placed, ChangedAt, StaysHole, Relaid, Planning, UnitsPlanned}
use Rattle.rewrite.specs.declared.Progress as code
use Rattle.rewrite.specs.declared.Plan as answer

-- ---- plans put before a plan

-- one more unit before it
pub prepend_all-snoc : (rs : List Rewritten) (r : Rewritten) (k : Plan) → prepend_all (rs ++ (r ∷ [])) k ≡ prepend_all rs (prepend r k)
unfolding prepend_all
prepend_all-snoc [] r k = refl
prepend_all-snoc (x ∷ rs) r k = ap (prepend x) (prepend_all-snoc rs r k)

-- units before a plan of none
pub prepend_all-planned : (rs : List Rewritten) (p : Progress) → prepend_all rs (planned [] p) ≡ planned rs p
unfolding prepend_all prepend
prepend_all-planned [] p = refl
prepend_all-planned (r ∷ rs) p = ap (prepend r) (prepend_all-planned rs p)

-- a refusal stays one
pub prepend_all-refused : (rs : List Rewritten) (e : Refusal) → prepend_all rs (refused e) ≡ refused e
unfolding prepend_all prepend
prepend_all-refused [] e = refl
prepend_all-refused (r ∷ rs) e = ap (prepend r) (prepend_all-refused rs e)

-- a plan that is none has no number
number-planned : (rs : List Rewritten) (p : Progress) → plan_number (planned rs p) ≡ 0
unfolding plan_number
number-planned rs p = refl

-- a refused unit refuses all, whatever comes before and after it
pub step-refused : (rs : List Rewritten) (p : Progress) (s : Step) (next : Progress → Plan) (m : ℕ) → step_number s ≡ m → 0 < m → plan_number (prepend_all rs (and_then p s next)) ≡ m
unfolding step_number and_then plan_number
step-refused rs p (stopped r) next m e z = ap plan_number (prepend_all-refused rs r) ∙ e
step-refused rs p untouched next m e z = absurd (omega (arith, e))
step-refused rs p (rewritten r) next m e z = absurd (omega (arith, e))

-- a rewritten unit joins those before it
then-done : (rs : List Rewritten) (r : Rewritten) (p : Progress) (next : Progress → Plan) → prepend_all rs (and_then p (rewritten r) next) ≡ prepend_all (rs ++ (r ∷ [])) (next (after p r))
unfolding and_then
then-done rs r p next = sym (prepend_all-snoc rs r (next (after p r)))

-- an untouched hole leaves things as they are
then-hole : (p : Progress) (next : Progress → Plan) → and_then p untouched next ≡ next p
unfolding and_then
then-hole p next = refl

-- what is behind a place, up to the end
part-rest : (xs : List ℕ) (i k : ℕ) → length xs ≤ i → part k (i - k) xs ≡ drop k xs
unfolding part
part-rest xs i k l = take_all (i - k) (drop k xs) (rw (length-drop k xs) (omega (arith, l)))

-- ---- units laid out

-- a unit has no more blocks than sixteen
blocks-most : (c : Change) (unit : ℕ) → blocks_after c unit ≤ unit_blocks
unfolding blocks_after
blocks-most c unit = valid-blocks c.new_size unit

-- fewer of the same first entries
take-fewer : (k n : ℕ) (xs ys : List ℕ) → k ≤ n → take n xs ≡ take n ys → take k xs ≡ take k ys
take-fewer k n xs ys l e = sym (take-take k n xs l) ∙ ap (take k) e ∙ take-take k n ys l

module _ (limit : ℕ) (v : Volume) (c : Change) where
  -- a unit depends on its sixteen blocks only
  pub laid_unit-same : (unit : ℕ) (xs ys : List ℕ) → take unit_blocks xs ≡ take unit_blocks ys → laid_unit limit v c unit xs ≡ laid_unit limit v c unit ys
  unfolding laid_unit
  laid_unit-same unit xs ys e = rw (take-fewer (blocks_after c unit) unit_blocks xs ys (blocks-most c unit) e) refl

  -- several on theirs
  pub laid_units-same : (us : List ℕ) (xs ys : List ℕ) → take (unit_blocks * length us) xs ≡ take (unit_blocks * length us) ys → laid_units limit v c us xs ≡ laid_units limit v c us ys
  unfolding laid_units
  laid_units-same [] xs ys e = refl
  laid_units-same (u ∷ us) xs ys e =
      let n : ℕ = unit_blocks * length us in
      let q : unit_blocks * suc (length us) ≡ unit_blocks + n = omega arith in
      let f : take (unit_blocks + n) xs ≡ take (unit_blocks + n) ys = rw q at e in
      let r : take n (drop unit_blocks xs) ≡ take n (drop unit_blocks ys) = sym (drop-take unit_blocks n xs) ∙ ap (drop unit_blocks) f ∙ drop-take unit_blocks n ys in
      rw (laid_unit-same u xs ys (take-fewer unit_blocks (unit_blocks + n) xs ys (omega arith) f), laid_units-same us (drop unit_blocks xs) (drop unit_blocks ys) r) refl

  -- one more
  pub laid_units-snoc : (us : List ℕ) (u : ℕ) (xs : List ℕ) → laid_units limit v c (us ++ (u ∷ [])) xs ≡ laid_units limit v c us xs ++ (laid_unit limit v c u (drop (unit_blocks * length us) xs) ∷ [])
  unfolding laid_units
  laid_units-snoc [] u xs = refl
  laid_units-snoc (x ∷ us) u xs =
      let q : unit_blocks + unit_blocks * length us ≡ unit_blocks * suc (length us) = omega arith in
      let d : drop (unit_blocks * length us) (drop unit_blocks xs) ≡ drop (unit_blocks * suc (length us)) xs = drop-drop (unit_blocks * length us) unit_blocks xs ∙ ap (λ (k : ℕ). drop k xs) q in
      rw (laid_units-snoc us u (drop unit_blocks xs), d) refl

  -- the next unit
  pub units-next : (units : List ℕ) (i : ℕ) (p : Progress) → i < length units → rewrite_units limit v c (drop i units) p
      ≡ and_then p (rewrite_unit limit v c (get_or units i 0) p) (λ q. rewrite_units limit v c (drop (i + 1) units) q)
  unfolding rewrite_units
  units-next units i p l =
      let e : suc i ≡ i + 1 = omega arith in
      let d : drop i units ≡ get_or units i 0 ∷ drop (i + 1) units = drop-cons units i 0 l ∙ ap (λ (k : ℕ). get_or units i 0 ∷ drop k units) e in
      rw d refl

  -- a plan that ends there
  units-none : (rs : List Rewritten) (p : Progress) → prepend_all rs (rewrite_units limit v c [] p) ≡ planned rs p
  unfolding rewrite_units
  units-none rs p = prepend_all-planned rs p

  -- no unit laid out leaves a plan as it is
  none-laid : (blocks : List ℕ) (k : Plan) → prepend_all (laid_units limit v c [] blocks) k ≡ k
  unfolding laid_units prepend_all
  none-laid blocks k = refl

  -- ---- the units so far

  module _ (units : List ℕ) (p : Progress) where
    -- none yet
    pub planning-none : (map kept blocks : List ℕ) (n : code.Progress) → Carries v p map n → Planning limit v c units p 0 0 map kept blocks n
    planning-none map kept blocks n k = record {
      left = p;
      carries = k;
      plan = unfold part laid_units prepend_all in refl;
      placed = λ j l m. absurd (omega arith);
      first = omega arith;
    }

    module _ (i skip : ℕ) (map kept blocks : List ℕ) (n : code.Progress) (l : i < length units) (k : skip ≤ i) (h : Planning limit v c units p i skip map kept blocks n) where
      -- a unit that is refused: its number is that of all
      pub planning-refused : (m : ℕ) → step_number (rewrite_unit limit v c (get_or units i 0) h.left) ≡ m → 0 < m → plan_number (rewrite_units limit v c units p) ≡ m
      planning-refused m e z =
          ap plan_number h.plan
          ∙ ap (λ (t : Plan). plan_number (prepend_all (laid_units limit v c (part skip (i - skip) units) (drop (unit_blocks * skip) blocks)) t)) (units-next units i h.left l)
          ∙ step-refused (laid_units limit v c (part skip (i - skip) units) (drop (unit_blocks * skip) blocks)) h.left (rewrite_unit limit v c (get_or units i 0) h.left) (λ q. rewrite_units limit v c (drop (i + 1) units) q) m e z

      -- an untouched hole: only the first unit can be one
      pub planning-hole : (0 < i → touches c (get_or units i 0) ≡ true) → (map₁ kept₁ blocks₁ : List ℕ) (n₁ : code.Progress)
          → StaysHole limit v c (get_or units i 0) h.left map₁ n₁ → Planning limit v c units p (i + 1) (skip + 1) map₁ kept₁ blocks₁ n₁
      planning-hole t map₁ kept₁ blocks₁ n₁ s = go (dec_lt 0 i)
        where
          stays : i ≡ 0 → rewrite_units limit v c units p
              ≡ prepend_all (laid_units limit v c (part (skip + 1) (i + 1 - (skip + 1)) units) (drop (unit_blocks * (skip + 1)) blocks₁)) (rewrite_units limit v c (drop (i + 1) units) h.left)
          stays e =
              let a : i - skip ≡ 0 = omega arith in
              let b : i + 1 - (skip + 1) ≡ 0 = omega arith in
              let x : part skip (i - skip) units ≡ [] = rw a (part_none units skip) in
              let y : part (skip + 1) (i + 1 - (skip + 1)) units ≡ [] = rw b (part_none units (skip + 1)) in
              h.plan
              ∙ ap (λ (t : List ℕ). prepend_all (laid_units limit v c t (drop (unit_blocks * skip) blocks)) (rewrite_units limit v c (drop i units) h.left)) x
              ∙ none-laid (drop (unit_blocks * skip) blocks) (rewrite_units limit v c (drop i units) h.left)
              ∙ units-next units i h.left l
              ∙ ap (λ (t : Step). and_then h.left t (λ q. rewrite_units limit v c (drop (i + 1) units) q)) s.step
              ∙ then-hole h.left (λ q. rewrite_units limit v c (drop (i + 1) units) q)
              ∙ sym (none-laid (drop (unit_blocks * (skip + 1)) blocks₁) (rewrite_units limit v c (drop (i + 1) units) h.left))
              ∙ sym (ap (λ (t : List ℕ). prepend_all (laid_units limit v c t (drop (unit_blocks * (skip + 1)) blocks₁)) (rewrite_units limit v c (drop (i + 1) units) h.left)) y)

          go : Dec (0 < i) → Planning limit v c units p (i + 1) (skip + 1) map₁ kept₁ blocks₁ n₁
          go (yes z) = absurd (clash s.apart (t z))
          go (no z) = record {
            left = h.left;
            carries = s.carries;
            plan = stays (omega arith);
            placed = λ j a b. absurd (omega (arith, a, b));
            first = omega arith;
          }

      -- the units laid out, with one more
      laid_more : (blocks₁ : List ℕ) → unit_blocks * length units ≤ length blocks → ChangedAt i blocks blocks₁
          → laid_units limit v c (part skip (i + 1 - skip) units) (drop (unit_blocks * skip) blocks₁)
          ≡ laid_units limit v c (part skip (i - skip) units) (drop (unit_blocks * skip) blocks) ++ (laid_unit limit v c (get_or units i 0) (part (unit_blocks * i) unit_blocks blocks₁) ∷ [])
      unfolding part
      laid_more blocks₁ lb eb =
          let us : List ℕ = part skip (i - skip) units in
          let m : i + 1 - skip ≡ i - skip + 1 = omega arith in
          let at_i : skip + (i - skip) ≡ i = omega arith in
          let len : length (part skip (i - skip) units) ≡ i - skip = length_part units skip (i - skip) (omega arith) in
          let more : part skip (i + 1 - skip) units ≡ part skip (i - skip) units ++ (get_or units i 0 ∷ []) =
          ap (λ (x : ℕ). part skip x units) m ∙ part-snoc units skip (i - skip) (omega arith) ∙ ap (λ (x : ℕ). part skip (i - skip) units ++ (get_or units x 0 ∷ [])) at_i in
          let same : laid_units limit v c us (drop (unit_blocks * skip) blocks₁) ≡ laid_units limit v c us (drop (unit_blocks * skip) blocks) =
          laid_units-same us (drop (unit_blocks * skip) blocks₁) (drop (unit_blocks * skip) blocks)
          (rw len (ap (part (unit_blocks * skip) (unit_blocks * (i - skip))) eb.rest
          ∙ part-patch-before blocks (unit_blocks * i) (unit_blocks * skip) (unit_blocks * (i - skip)) (part (unit_blocks * i) unit_blocks blocks₁) (omega arith) (omega (arith, l, lb)))) in
          let there : drop (unit_blocks * length us) (drop (unit_blocks * skip) blocks₁) ≡ drop (unit_blocks * i) blocks₁ =
          let q : unit_blocks * skip + unit_blocks * length us ≡ unit_blocks * i = omega (arith, len) in
          drop-drop (unit_blocks * length us) (unit_blocks * skip) blocks₁ ∙ ap (λ (x : ℕ). drop x blocks₁) q in
          let last : laid_unit limit v c (get_or units i 0) (drop (unit_blocks * length us) (drop (unit_blocks * skip) blocks₁)) ≡ laid_unit limit v c (get_or units i 0) (part (unit_blocks * i) unit_blocks blocks₁) =
          laid_unit-same (get_or units i 0) (drop (unit_blocks * length us) (drop (unit_blocks * skip) blocks₁)) (part (unit_blocks * i) unit_blocks blocks₁)
          (ap (take unit_blocks) there ∙ sym (take-take unit_blocks unit_blocks (drop (unit_blocks * i) blocks₁) (omega arith))) in
          ap (λ (t : List ℕ). laid_units limit v c t (drop (unit_blocks * skip) blocks₁)) more
          ∙ laid_units-snoc us (get_or units i 0) (drop (unit_blocks * skip) blocks₁)
          ∙ rw (same, last) refl

      -- a rewritten unit
      pub planning-done : (map₁ kept₁ blocks₁ : List ℕ) (n₁ : code.Progress) → unit_blocks * length units ≤ length kept → unit_blocks * length units ≤ length blocks
          → ChangedAt i kept kept₁ → ChangedAt i blocks blocks₁
          → Relaid limit v c (get_or units i 0) h.left map₁ (part (unit_blocks * i) unit_blocks kept₁) (part (unit_blocks * i) unit_blocks blocks₁) n₁
          → Planning limit v c units p (i + 1) skip map₁ kept₁ blocks₁ n₁
      planning-done map₁ kept₁ blocks₁ n₁ lk lb ek eb r = record {
        left = after h.left (laid_unit limit v c (get_or units i 0) (part (unit_blocks * i) unit_blocks blocks₁));
        carries = r.carries;
        plan =
            h.plan
            ∙ ap (prepend_all before) (units-next units i h.left l ∙ ap (λ (t : Step). and_then h.left t (λ q. rewrite_units limit v c (drop (i + 1) units) q)) r.step)
            ∙ then-done before next h.left (λ q. rewrite_units limit v c (drop (i + 1) units) q)
            ∙ ap (λ (t : List Rewritten). prepend_all t (rewrite_units limit v c (drop (i + 1) units) (after h.left next))) (sym (laid_more blocks₁ lb eb));
        placed = λ j a b. placed_on j a b (dec_lt j i);
        first = h.first;
      }
        where
          before : List Rewritten
          before = laid_units limit v c (part skip (i - skip) units) (drop (unit_blocks * skip) blocks)

          next : Rewritten
          next = laid_unit limit v c (get_or units i 0) (part (unit_blocks * i) unit_blocks blocks₁)

          -- a unit before this one has what it had
          same_at : (xs ys : List ℕ) → ChangedAt i xs ys → unit_blocks * length units ≤ length xs → (j : ℕ) → j < i → part (unit_blocks * j) unit_blocks ys ≡ part (unit_blocks * j) unit_blocks xs
          same_at xs ys e m j b =
              ap (part (unit_blocks * j) unit_blocks) e.rest
              ∙ part-patch-before xs (unit_blocks * i) (unit_blocks * j) unit_blocks (part (unit_blocks * i) unit_blocks ys) (omega (arith, b)) (omega (arith, l, m))

          placed_on : (j : ℕ) → skip ≤ j → j < i + 1 → Dec (j < i) → Placed limit v c (get_or units j 0) (part (unit_blocks * j) unit_blocks kept₁) (part (unit_blocks * j) unit_blocks blocks₁)
          placed_on j a b (yes m) = rw (same_at kept kept₁ ek lk j m, same_at blocks blocks₁ eb lb j m) (h.placed j a m)
          placed_on j a b (no m) = let e : j ≡ i = omega arith in rw e r.placed

    -- all of them
    pub planning-all : (i skip : ℕ) (map kept blocks : List ℕ) (n : code.Progress) → length units ≤ i → i ≤ length units → skip ≤ i
        → Planning limit v c units p i skip map kept blocks n → (r : answer.Plan) → r.number ≡ 0 → r.skip ≡ skip → r.hint ≡ n.hint → r.allocated ≡ n.allocated
        → UnitsPlanned limit v c units p map kept blocks r
    planning-all i skip map kept blocks n a b k h r en es eh ea = record {
      number = ap plan_number whole ∙ (number-planned (laid_units limit v c (drop r.skip units) (drop (unit_blocks * r.skip) blocks)) h.left) ∙ sym en;
      done = λ z. record {
        left = h.left;
        hint = h.carries.hint ∙ sym eh;
        allocated = h.carries.allocated ∙ sym ea;
        plan = whole;
        placed = λ j x y. h.placed j (rw es at x) (omega (arith, a, y));
        first = rw es h.first;
        marked = h.carries.taken.bits;
      };
    }
      where
        rest : drop i units ≡ []
        rest = drop_of_length-le units a

        whole : rewrite_units limit v c units p ≡ planned (laid_units limit v c (drop r.skip units) (drop (unit_blocks * r.skip) blocks)) h.left
        whole =
            h.plan
            ∙ rw (rest, part-rest units i skip a, ← es) (units-none (laid_units limit v c (drop r.skip units) (drop (unit_blocks * r.skip) blocks)) h.left)
