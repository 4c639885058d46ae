-- A plan that is not refused, unit by unit: how many units it rewrites, the hint that it leaves, and that a rewritten tail has its group.
-- Assumes nothing.
use mathlib.Core.Path.{◌≡◌, refl, sym, ap, ◌∙◌}
use mathlib.Core.Bool.{true, false}
use mathlib.Core.List.{List, [], ◌∷◌}
use Prim.Native.Nat.{ℕ, suc, ◌/◌, ◌≤◌, ◌<◌}
use native.Mathlib.Omega.{arith}
use lib.ListN.{length, drop}
use Rattle.rules.specs.Lists.{any}
use Rattle.rules.specs.Sizes.{unit_blocks, group_units, most_blocks}
use Rattle.rules.specs.Store.{Volume}
use Rattle.rules.specs.Units.{Change, touches, reads_old}
use Rattle.rules.specs.Inspect.{Inspected, inspect_unit}
use Rattle.rules.specs.Inspect.Inspected.{damaged, hole, checked}
use Rattle.rules.specs.Allocation.{hint_after}
use Rattle.rules.specs.Rewrite.{Progress, Rewritten, Step, Plan, rewrite_from, after_read, rewrite_unit, after, prepend, and_then, rewrite_units}
use Rattle.rules.specs.Rewrite.Step.{stopped, untouched, rewritten}
use Rattle.rules.specs.Rewrite.Plan.{refused, planned}
use Rattle.rules.specs.Answers.{plan_units}
use Rattle.rules.proofs.ListLaws.{if-true, if-false, Each, each_none, each_more, each_weaken}
use Rattle.rules.proofs.AllocationLaws.{hint_after-lt, hint_after-none, groups-four}
use Rattle.rules.proofs.PassLaws.{Lawful}
use Rattle.book.specs.Places.{group_is}
use Rattle.rewrite.specs.Plan.{laid_units}
use Rattle.finish_units.proofs.PlanFreeLaws.{Sound, planned-sound}
use Rattle.finish_units.proofs.CarryLaws.{length-laid}
use Rattle.file.proofs.PartLaws.{checked-group}

-- what a planned list says of its first unit: it stays, or it is rewritten and the rest is planned behind it
step-cases : (P : Type 0) (p : Progress) (s : Step) (next : Progress → Plan) (rs : List Rewritten) (q : Progress) → and_then p s next ≡ planned rs q
    → (next p ≡ planned rs q → P) → ((r : Rewritten) (ts : List Rewritten) → next (after p r) ≡ planned ts q → r ∷ ts ≡ rs → P) → P
unfolding and_then
step-cases P p (stopped x) next rs q e a b = let z : ◌≡◌ {A = ℕ} 0 1 = cc in absurd (omega arith)
step-cases P p untouched next rs q e a b = a e
step-cases P p (rewritten r) next rs q e a b = go (next (after p r)) refl e
  where
    go : (plan : Plan) → next (after p r) ≡ plan → prepend r plan ≡ planned rs q → P
    go (refused x) n h = let z : ◌≡◌ {A = ℕ} 0 1 = unfold prepend in cc in absurd (omega arith)
    go (planned ts t) n h =
        let x : t ≡ q = unfold prepend in cc in
        let y : r ∷ ts ≡ rs = unfold prepend in cc in
        b r ts (n ∙ ap (planned ts) x) y

-- the hint after a unit is a group's number
hint-after : (blocks : ℕ) → blocks ≤ most_blocks → (hint : ℕ) {new : List ℕ} → Each (λ b. b < blocks) new → hint < 4 → hint_after hint new < 4
hint-after blocks l hint each_none h = rw (hint_after-none hint) h
hint-after blocks l hint (each_more {x = b} {xs = new} q w) h =
    omega (arith, hint_after-lt blocks hint (b ∷ new) (each_more q w) (omega arith), groups-four blocks l)

-- the first of a list has what each has
first_case : {v : Volume} {r : Rewritten} {ts : List Rewritten} → Each (Sound v) (r ∷ ts) → Sound v r
first_case (each_more x h) = x

module _ (limit : ℕ) (v : Volume) (c : Change) where
  -- no more units are rewritten than there are
  planned-length : (us : List ℕ) (p q : Progress) (rs : List Rewritten) → rewrite_units limit v c us p ≡ planned rs q → length rs ≤ length us
  unfolding rewrite_units plan_units
  planned-length [] p q rs e = let z : [] ≡ rs = ap plan_units e in rw (← z) (omega arith)
  planned-length (u ∷ us) p q rs e =
      step-cases (length rs ≤ suc (length us)) p (rewrite_unit limit v c u p) (λ t. rewrite_units limit v c us t) rs q e
      (λ n. omega (arith, planned-length us p q rs n))
      (λ r ts n y. rw (← y) (omega (arith, planned-length us (after p r) q ts n)))

  -- the hint that is left is a group's number
  pub planned-hint : Lawful v → v.blocks ≤ most_blocks → (us : List ℕ) (p q : Progress) (rs : List Rewritten) → rewrite_units limit v c us p ≡ planned rs q → p.hint < 4 → q.hint < 4
  unfolding rewrite_units after
  planned-hint l m [] p q rs e h = let z : p ≡ q = cc in rw (← z) h
  planned-hint l m (u ∷ us) p q rs e h =
      let sound : Each (Sound v) rs = planned-sound limit v c l (u ∷ us) p q rs e in
      step-cases (q.hint < 4) p (rewrite_unit limit v c u p) (λ t. rewrite_units limit v c us t) rs q e
      (λ n. planned-hint l m us p q rs n h)
      (λ r ts n y. planned-hint l m us (after p r) q ts n
      (hint-after v.blocks m p.hint (each_weaken (λ b k. k.0) (first_case (rw (← y) at sound)).free) h))

  -- a tail into which no written byte falls is rewritten only if it was read and checked, so it has its group
  pub tail-group : (t : ℕ) (ws us bs : List ℕ) (p q : Progress) → us ≡ t ∷ ws → reads_old c t ≡ true → touches c t ≡ false
      → rewrite_units limit v c us p ≡ planned (laid_units limit v c us bs) q → any (group_is c.object (t / group_units)) v.books.groups ≡ true
  unfolding rewrite_units laid_units rewrite_unit and_then after_read
  tail-group t ws us bs p q w r n e = go (inspect_unit v c.object c.old_size t) refl
    where
      plan : rewrite_units limit v c (t ∷ ws) p ≡ planned (laid_units limit v c (t ∷ ws) bs) q
      plan = rw w at e

      step : (i : Inspected) → inspect_unit v c.object c.old_size t ≡ i → rewrite_unit limit v c t p ≡ after_read limit v c t p i
      step i h =
          if-true (reads_old c t) (after_read limit v c t p (inspect_unit v c.object c.old_size t)) (rewrite_from limit v c t p false []) r ∙ ap (after_read limit v c t p) h

      go : (i : Inspected) → inspect_unit v c.object c.old_size t ≡ i → any (group_is c.object (t / group_units)) v.books.groups ≡ true
      go (damaged x) h =
          let k : refused x ≡ planned (laid_units limit v c (t ∷ ws) bs) q = sym (ap (λ (s : Step). and_then p s (λ o. rewrite_units limit v c ws o)) (step (damaged x) h)) ∙ plan in
          let z : ◌≡◌ {A = ℕ} 0 1 = cc in absurd (omega arith)
      go hole h =
          let f : after_read limit v c t p hole ≡ untouched = if-false (touches c t) (rewrite_from limit v c t p false []) untouched n in
          let k : rewrite_units limit v c ws p ≡ planned (laid_units limit v c (t ∷ ws) bs) q = sym (ap (λ (s : Step). and_then p s (λ o. rewrite_units limit v c ws o)) (step hole h ∙ f)) ∙ plan in
          absurd (omega (arith, planned-length ws p q (laid_units limit v c (t ∷ ws) bs) k, length-behind))
        where
          length-behind : length (laid_units limit v c ws (drop unit_blocks bs)) ≡ length ws
          length-behind = length-laid limit v c ws (drop unit_blocks bs)
      go (checked ys) h = checked-group v c.object c.old_size t ys h
