-- What a plan that was carried out says of its rewritten units together: their order, their new blocks, the card's count and the hint.
-- Assumes nothing.
use mathlib.Core.Path.{◌≡◌, refl, sym, ap, subst, ◌∙◌}
use mathlib.Core.Logic.{◌⊎◌, inl, inr}
use mathlib.Core.List.{List, [], ◌∷◌, ◌++◌, flat_map, Memᴰ}
use mathlib.Core.Bool.{true, false}
use Prim.Native.Nat.{ℕ, ◌+◌, ◌*◌, ◌≤◌, ◌<◌}
use native.Mathlib.Decide.{ℕ_discrete}
use native.Mathlib.Omega.{arith}
use lib.Dec.{eqb, ltb}
use lib.ListN.{length, length-append}
use borrow.Author.Tests.{eqb-true, eq-eqb, ltb-false, lt-ltb}
use Rattle.rules.specs.Lists.{count, member, ascending, begun, neighbours}
use Rattle.rules.specs.Sizes.{block_bytes, unit_bytes, most_blocks, most_allocated}
use Rattle.rules.specs.Store.{Volume}
use Rattle.rules.specs.Units.{Change, valid_length}
use Rattle.rules.specs.Allocation.{hint_after}
use Rattle.rules.specs.Rewrite.{Progress, Rewritten, allocated_after, is_count_off, after}
use Rattle.rules.specs.Finish.{new_blocks, superseded_blocks}
use Rattle.rules.proofs.ListLaws.{clash, test-cases, and_intro, or_cases, or_left, or_right, or-none-left, or-none-right, member-append, count-append, ascending-tail, Each, each_none, each_more, each_weaken}
use Rattle.rules.proofs.CountLaws.{member-cons, member-count, member-each, Once, ascending-below, count-nil}
use Rattle.rules.proofs.AllocationLaws.{hint_after-lt, hint_after-none, groups-four}
use Rattle.history.proofs.Rewritten.{Units}
use Rattle.history.proofs.ImageAfter.{new-cons}
use Rattle.history.proofs.GroupsAfter.{unit_before}
use Rattle.rules.proofs.KeptLaws.{length-assigned}
use Rattle.history.proofs.UnitLaws.{valid-blocks}
use Rattle.history.proofs.PlanLaws.{Placed, Planned, plan-end, plan-hole, plan-unit}

-- the superseded blocks of the first unit, and of the others
pub superseded-cons : (r : Rewritten) (rs : List Rewritten) → superseded_blocks (r ∷ rs) ≡ r.superseded ++ superseded_blocks rs
unfolding superseded_blocks flat_map
superseded-cons r rs = refl

-- without units there is no new block
none-new : (b : ℕ) → member b (new_blocks []) ≡ false
unfolding new_blocks flat_map
none-new b = member-count b [] ∙ ap (ltb 0) (count-nil (eqb b))

-- a unit comes before those that are later
ascending-more : (r : Rewritten) {rs : List Rewritten} → Each (λ t. r.unit < t.unit) rs → ascending unit_before rs ≡ true → ascending unit_before (r ∷ rs) ≡ true
unfolding neighbours
ascending-more r each_none a = refl
ascending-more r (each_more {x = t} {xs = ts} l h) a = and_intro (unit_before r t) (ascending unit_before (t ∷ ts)) (lt-ltb r.unit t.unit l) a

-- a rewritten unit of the file, whatever it found
pub record Made (v : Volume) (c : Change) (r : Rewritten) : Type 0 where
  pub found : Progress
  pub placed : Placed v c found r.unit r
  pub inside : r.unit * unit_bytes < c.new_size

-- what a new block was before
pub record WasFree (v : Volume) (p : Progress) (b : ℕ) : Type 0 where
  pub below : b < v.blocks
  pub unused : v.used b ≡ false
  pub untaken : member b p.taken ≡ false

-- the hint after a unit is a group
hint-after : (blocks : ℕ) → blocks ≤ most_blocks → (hint : ℕ) {new : List ℕ} → Each (λ b. b < blocks) new → hint < 4 → hint_after hint new < 4
hint-after blocks l hint each_none h = rw (hint_after-none hint) h
hint-after blocks l hint (each_more {x = b} {xs = new} q w) h = omega (arith, hint_after-lt blocks hint (b ∷ new) (each_more q w) (omega arith), groups-four blocks l)

-- where the card's count does not disagree, it has the superseded blocks, and stays in range
count-agrees : (n : ℕ) (r : Rewritten) → is_count_off n r ≡ false → (length r.superseded ≤ n) × (allocated_after n r ≤ most_allocated)
unfolding is_count_off
count-agrees n r d = (
  ltb-false n (length r.superseded) (or-none-left (ltb n (length r.superseded)) (ltb most_allocated (allocated_after n r)) d),
  ltb-false most_allocated (allocated_after n r) (or-none-right (ltb n (length r.superseded)) (ltb most_allocated (allocated_after n r)) d),
)

module _ {v : Volume} {c : Change} {Hole : ℕ → Type 0} {Right : Rewritten → Type 0} where
  -- each rewritten unit is one
  pub planned-made : {us : List ℕ} {p q : Progress} {rs : List Rewritten} → Planned v c Hole Right us p rs q → Each (λ u. u * unit_bytes < c.new_size) us → Each (Made v c) rs
  planned-made plan-end each_none = each_none
  planned-made (plan-hole h d) (each_more l w) = planned-made d w
  planned-made (plan-unit {u = u} {p = p} {r = r} h n g d) (each_more l w) =
      each_more (record { found = p; placed = subst (λ (x : ℕ). Placed v c p x r) (sym h.unit) h; inside = rw h.unit l }) (planned-made d w)

  -- with what is told of it
  pub planned-right : {us : List ℕ} {p q : Progress} {rs : List Rewritten} → Planned v c Hole Right us p rs q → Each Right rs
  planned-right plan-end = each_none
  planned-right (plan-hole h d) = planned-right d
  planned-right (plan-unit h n g d) = each_more g (planned-right d)

  -- it is one of the units of the change
  planned-among : {us : List ℕ} {p q : Progress} {rs : List Rewritten} → Planned v c Hole Right us p rs q → Each (λ r. member r.unit us ≡ true) rs
  planned-among plan-end = each_none
  planned-among (plan-hole {u = u} {us = us} h d) = each_weaken (λ r m. member-cons r.unit u us ∙ or_right (eqb r.unit u) (member r.unit us) m) (planned-among d)
  planned-among (plan-unit {u = u} {us = us} {r = r} h n g d) =
      each_more (member-cons r.unit u us ∙ or_left (eqb r.unit u) (member r.unit us) (eq-eqb r.unit u h.unit))
      (each_weaken (λ t m. member-cons t.unit u us ∙ or_right (eqb t.unit u) (member t.unit us) m) (planned-among d))

  -- the rewritten units ascend
  pub planned-order : {us : List ℕ} {p q : Progress} {rs : List Rewritten} → Planned v c Hole Right us p rs q → ascending ltb us ≡ true → ascending unit_before rs ≡ true
  planned-order plan-end a = unfold neighbours in refl
  planned-order (plan-hole {u = u} {us = us} h d) a = planned-order d (ascending-tail ltb u us a)
  planned-order (plan-unit {u = u} {us = us} {r = r} h n g d) a =
      ascending-more r (each_weaken (λ t m. let l : u < t.unit = member-each (λ x. u < x) (ascending-below u us a) t.unit m in omega (arith, h.unit)) (planned-among d))
      (planned-order d (ascending-tail ltb u us a))

  -- each unit of the change is rewritten or stays a hole
  pub planned-at : {us : List ℕ} {p q : Progress} {rs : List Rewritten} → Planned v c Hole Right us p rs q → (u : ℕ) → member u us ≡ true
      → ((r : Rewritten) × Memᴰ r rs × (r.unit ≡ u)) ⊎ Hole u
  planned-at plan-end u m = absurd (clash (member-none u) m)
    where
      member-none : (u : ℕ) → member u [] ≡ false
      member-none u = member-count u [] ∙ ap (ltb 0) (count-nil (eqb u))
  planned-at (plan-hole {u = t} {us = us} {rs = rs} h d) u m = go (ℕ_discrete u t) (planned-at d u)
    where
      go : Dec (u ≡ t) → (member u us ≡ true → ((r : Rewritten) × Memᴰ r rs × (r.unit ≡ u)) ⊎ Hole u) → ((r : Rewritten) × Memᴰ r rs × (r.unit ≡ u)) ⊎ Hole u
      go (yes e) ih = inr (rw e h)
      go (no z) ih = ih (or_cases (member u us ≡ true) (eqb u t) (member u us) (sym (member-cons u t us) ∙ m) (λ e. absurd (z (eqb-true u t e))) (λ e. e))
  planned-at (plan-unit {u = t} {us = us} {r = r} {rs = rs} h n g d) u m = go (ℕ_discrete u t) (planned-at d u)
    where
      later : ((s : Rewritten) × Memᴰ s rs × (s.unit ≡ u)) ⊎ Hole u → ((s : Rewritten) × Memᴰ s (r ∷ rs) × (s.unit ≡ u)) ⊎ Hole u
      later (inl s) = inl (s.0, Memᴰ.tail s.1, s.2)
      later (inr s) = inr s

      go : Dec (u ≡ t) → (member u us ≡ true → ((s : Rewritten) × Memᴰ s rs × (s.unit ≡ u)) ⊎ Hole u) → ((s : Rewritten) × Memᴰ s (r ∷ rs) × (s.unit ≡ u)) ⊎ Hole u
      go (yes e) ih = inl (r, Memᴰ.head refl, h.unit ∙ sym e)
      go (no z) ih = later (ih (or_cases (member u us ≡ true) (eqb u t) (member u us) (sym (member-cons u t us) ∙ m) (λ e. absurd (z (eqb-true u t e))) (λ e. e)))

  -- each new block was free
  pub planned-free : {us : List ℕ} {p q : Progress} {rs : List Rewritten} → Planned v c Hole Right us p rs q → (b : ℕ) → member b (new_blocks rs) ≡ true → WasFree v p b
  planned-free plan-end b m = absurd (clash (none-new b) m)
  planned-free (plan-hole h d) b m = planned-free d b m
  planned-free (plan-unit {p = p} {r = r} {rs = rs} h n g d) b m =
      or_cases (WasFree v p b) (member b r.new) (member b (new_blocks rs)) (sym (member-append b r.new (new_blocks rs)) ∙ sym (ap (member b) (new-cons r rs)) ∙ m)
      (λ e. let f = member-each (λ b. (b < v.blocks) × (v.used b ≡ false) × (member b p.taken ≡ false)) h.free b e in record { below = f.0; unused = f.1; untaken = f.2 })
      (λ e. earlier (planned-free d b e))
    where
      earlier : WasFree v (after p r) b → WasFree v p b
      earlier f = record { below = f.below; unused = f.unused; untaken = or-none-left (member b p.taken) (member b r.new) (sym (member-append b p.taken r.new) ∙ (unfold after in f.untaken)) }

  -- and is new once
  pub planned-once : {us : List ℕ} {p q : Progress} {rs : List Rewritten} → Planned v c Hole Right us p rs q → Once (new_blocks rs)
  planned-once plan-end b = unfold new_blocks flat_map in omega (arith, count-nil (eqb b))
  planned-once (plan-hole h d) b = planned-once d b
  planned-once (plan-unit {p = p} {r = r} {rs = rs} h n g d) b = rw (new-cons r rs) (go (planned-once d b) (λ m. planned-free d b m))
    where
      apart : (member b (new_blocks rs) ≡ true → WasFree v (after p r) b) → member b r.new ≡ true → member b (new_blocks rs) ≡ false
      apart f m = test-cases (member b (new_blocks rs) ≡ false) (member b (new_blocks rs))
          (λ e. absurd (clash (f e).untaken (unfold after in (member-append b p.taken r.new ∙ or_right (member b p.taken) (member b r.new) m)))) (λ e. e)

      go : count (eqb b) (new_blocks rs) ≤ 1 → (member b (new_blocks rs) ≡ true → WasFree v (after p r) b) → count (eqb b) (r.new ++ new_blocks rs) ≤ 1
      go n f = test-cases (count (eqb b) (r.new ++ new_blocks rs) ≤ 1) (member b r.new)
          (λ m. let z : ltb 0 (count (eqb b) (new_blocks rs)) ≡ false = sym (member-count b (new_blocks rs)) ∙ apart f m in
          omega (arith, count-append (eqb b) r.new (new_blocks rs), h.once b, ltb-false 0 (count (eqb b) (new_blocks rs)) z))
          (λ m. let z : ltb 0 (count (eqb b) r.new) ≡ false = sym (member-count b r.new) ∙ m in
          omega (arith, count-append (eqb b) r.new (new_blocks rs), n, ltb-false 0 (count (eqb b) r.new) z))

  -- the card's count stays in range
  pub planned-most : {us : List ℕ} {p q : Progress} {rs : List Rewritten} → Planned v c Hole Right us p rs q → p.allocated ≤ most_allocated → q.allocated ≤ most_allocated
  planned-most plan-end l = l
  planned-most (plan-hole h d) l = planned-most d l
  planned-most (plan-unit {p = p} {r = r} h n g d) l = planned-most d (unfold after in (count-agrees p.allocated r n).1)

  -- it loses the superseded blocks and gains the new ones
  pub planned-count : {us : List ℕ} {p q : Progress} {rs : List Rewritten} → Planned v c Hole Right us p rs q → q.allocated + length (superseded_blocks rs) ≡ p.allocated + length (new_blocks rs)
  planned-count plan-end = unfold superseded_blocks new_blocks flat_map in refl
  planned-count (plan-hole h d) = planned-count d
  planned-count (plan-unit {p = p} {q = q} {r = r} {rs = rs} h n g d) = go (planned-count d)
    where
      go : q.allocated + length (superseded_blocks rs) ≡ (after p r).allocated + length (new_blocks rs) → q.allocated + length (superseded_blocks (r ∷ rs)) ≡ p.allocated + length (new_blocks (r ∷ rs))
      go i = unfold after allocated_after in
          rw (superseded-cons r rs, new-cons r rs, length-append r.superseded (superseded_blocks rs), length-append r.new (new_blocks rs)) (omega (arith, (count-agrees p.allocated r n).0, i))

  -- the hint stays a group
  pub planned-hint : v.blocks ≤ most_blocks → {us : List ℕ} {p q : Progress} {rs : List Rewritten} → Planned v c Hole Right us p rs q → p.hint < 4 → q.hint < 4
  planned-hint l plan-end h = h
  planned-hint l (plan-hole s d) h = planned-hint l d h
  planned-hint l (plan-unit {p = p} {r = r} s n g d) h = planned-hint l d (unfold after in hint-after v.blocks l p.hint s.laid.below h)

-- a unit is one of the rewritten ones, or none of them
pub find-unit : (rs : List Rewritten) (u : ℕ) → ((r : Rewritten) × Memᴰ r rs × (r.unit ≡ u)) ⊎ Each (λ r. u ≡ r.unit → ⊥) rs
find-unit [] u = inr each_none
find-unit (r ∷ rs) u = go (ℕ_discrete u r.unit) (find-unit rs u)
  where
    go : Dec (u ≡ r.unit) → ((t : Rewritten) × Memᴰ t rs × (t.unit ≡ u)) ⊎ Each (λ t. u ≡ t.unit → ⊥) rs
        → ((t : Rewritten) × Memᴰ t (r ∷ rs) × (t.unit ≡ u)) ⊎ Each (λ t. u ≡ t.unit → ⊥) (r ∷ rs)
    go (yes e) x = inl (r, Memᴰ.head refl, sym e)
    go (no n) (inl t) = inl (t.0, Memᴰ.tail t.1, t.2)
    go (no n) (inr h) = inr (each_more n h)

-- the blocks that a rewritten unit has
pub made-blocks : {v : Volume} {c : Change} {r : Rewritten} → Made v c r → length r.blocks ≡ begun (valid_length c.new_size r.unit) block_bytes
made-blocks {v} {c} {r} m = ap length m.placed.laid.blocks ∙ length-assigned r.kept r.new m.placed.laid.many ∙ m.placed.wide

-- they are one to sixteen
pub units-made : {v : Volume} {c : Change} {rs : List Rewritten} → Each (Made v c) rs → ascending unit_before rs ≡ true → Units rs
units-made {v} {c} {rs} h a = record {
  order = a;
  filled = each_weaken (λ r m. some r m) h;
  most = each_weaken (λ r m. omega (arith, made-blocks m, valid-blocks c.new_size r.unit)) h;
}
  where
    some : (r : Rewritten) → Made v c r → 0 < length r.blocks
    some r m = let n : 0 < valid_length c.new_size r.unit = unfold valid_length in omega (arith, m.inside) in omega (arith, made-blocks m)
