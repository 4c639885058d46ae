-- The rules' rewritten units, told by what a plan fixes of them.
-- Assumes nothing.
use mathlib.Core.Path.{◌≡◌, refl, ap, ◌∙◌}
use mathlib.Core.List.{List, [], ◌∷◌}
use mathlib.Core.Bool.{Bool, true, false}
use mathlib.Core.Option.{Option, none, some}
use Prim.Native.Nat.{ℕ, ◌<◌}
use native.Mathlib.Omega.{arith}
use lib.ListN.{length, take}
use Rattle.rules.specs.Lists.{pick◌then◌else◌}
use Rattle.rules.specs.Sizes.{unit_blocks}
use Rattle.rules.specs.Store.{Volume}
use Rattle.rules.specs.Refusal.{Refusal, number_of}
use Rattle.rules.specs.Refusal.Refusal.{no_space, count_disagrees}
use Rattle.rules.specs.Units.{Change, touches, reads_old, assembled}
use Rattle.rules.specs.Inspect.{Inspected, inspect_unit, unit_mapping}
use Rattle.rules.specs.Inspect.Inspected.{damaged, hole, checked}
use Rattle.rules.specs.Kept.{blocks_after, wanted, assigned, retained_blocks}
use Rattle.rules.specs.Allocation.{too_few}
use Rattle.rules.specs.Rewrite.{Progress, Rewritten, Step, lay_out, allocate_unit, counted, is_count_off, allocated_after, rewrite_from, after_read, rewrite_unit}
use Rattle.rules.specs.Rewrite.Step.{stopped, untouched, rewritten}
use Rattle.rules.specs.Answers.{step_number}
use Rattle.rules.proofs.Refused.{numbered}
use Rattle.rules.proofs.KeptLaws.{wanted-some, wanted-none, wanted-most}
use Rattle.rules.proofs.AllocationLaws.{length-allocate_data}
use Rattle.rewrite.specs.declared.Old.{Old}
use Rattle.rewrite.specs.declared.Old.TheVariants.{Refused, Untouched, Unread, Verified}
use Rattle.rewrite.specs.Plan.{found_bytes, found_checked, new_of, old_read, old_bytes, verified, kept_by, laid_unit}
use Rattle.rewrite.specs.Steps.{read_as, old_as, count_after, count_wrong, given_blocks, lay_number}

-- the new blocks are found again among those assigned
pub new_of-assigned : (kept : List (Option ℕ)) (new : List ℕ) → length new ≡ wanted kept → new_of kept (assigned kept new) ≡ new
unfolding new_of assigned
new_of-assigned [] [] w = refl
new_of-assigned [] (b ∷ new) w = absurd (omega (arith, w, wanted-most []))
new_of-assigned (some p ∷ kept) new w = new_of-assigned kept new (w ∙ wanted-some p kept)
new_of-assigned (none ∷ kept) [] w = absurd (omega (arith, w, wanted-none kept))
new_of-assigned (none ∷ kept) (b ∷ new) w = ap (λ (t : List ℕ). b ∷ t) (new_of-assigned kept new (omega (arith, w, wanted-none kept)))

-- every refusal has a number
number-some : (r : Refusal) → 0 < number_of r
number-some r = omega (arith, (numbered r).least)

-- ---- a unit of a change

module _ (limit : ℕ) (v : Volume) (c : Change) (unit : ℕ) where
  -- a unit that is laid out is what the plan says of these blocks
  pub lay_out-laid : (new blocks : List ℕ) → take (blocks_after c unit) blocks ≡ assigned (kept_by limit v c unit) new → length new ≡ wanted (kept_by limit v c unit)
      → lay_out v c unit (assembled c unit (old_bytes v c unit)) (kept_by limit v c unit) new ≡ laid_unit limit v c unit blocks
  unfolding lay_out laid_unit
  lay_out-laid new blocks e w = rw (e, new_of-assigned (kept_by limit v c unit) new w) refl

  module _ (p : Progress) where
    -- what becomes of the unit, by what is known of its old bytes: a step, from what was found
    abbrev OldMeansOf : Step → Inspected → Old → Type 0
    OldMeansOf s i (Refused n) = (step_number s ≡ n) × (0 < n)
    OldMeansOf s i Untouched = (s ≡ untouched) × (touches c unit ≡ false)
    OldMeansOf s i Unread =
        (s ≡ allocate_unit v c unit p (assembled c unit (found_bytes i)) (retained_blocks limit c unit (found_checked i) (unit_mapping v c.object unit unit_blocks)))
        × (found_checked i ≡ false)
    OldMeansOf s i Verified =
        (s ≡ allocate_unit v c unit p (assembled c unit (found_bytes i)) (retained_blocks limit c unit (found_checked i) (unit_mapping v c.object unit unit_blocks)))
        × (found_checked i ≡ true)

    -- a hole that was read
    means-hole : (t : Bool) → touches c unit ≡ t → OldMeansOf (pick t then rewrite_from limit v c unit p false [] else untouched) hole (pick t then Unread else Untouched)
    unfolding rewrite_from found_bytes found_checked pick◌then◌else◌
    means-hole true e = (refl, refl)
    means-hole false e = (refl, e)

    -- a unit that was read or not, and what it was found to be
    means-found : (b : Bool) (i : Inspected) → OldMeansOf (pick b then after_read limit v c unit p i else rewrite_from limit v c unit p false []) (pick b then i else hole) (pick b then read_as c unit i else Unread)
    unfolding rewrite_from after_read found_bytes found_checked read_as step_number pick◌then◌else◌
    means-found false i = (refl, refl)
    means-found true (damaged r) = (refl, number-some r)
    means-found true hole = means-hole (touches c unit) refl
    means-found true (checked xs) = (refl, refl)

    -- the same of the unit as the rules read it
    abbrev pub OldMeans : Old → Type 0
    OldMeans (Refused n) = (step_number (rewrite_unit limit v c unit p) ≡ n) × (0 < n)
    OldMeans Untouched = (rewrite_unit limit v c unit p ≡ untouched) × (touches c unit ≡ false)
    OldMeans Unread =
        (rewrite_unit limit v c unit p ≡ allocate_unit v c unit p (assembled c unit (old_bytes v c unit)) (kept_by limit v c unit)) × (verified v c unit ≡ false)
    OldMeans Verified =
        (rewrite_unit limit v c unit p ≡ allocate_unit v c unit p (assembled c unit (old_bytes v c unit)) (kept_by limit v c unit)) × (verified v c unit ≡ true)

    -- the second is the first
    means-same : (o : Old) → OldMeansOf (rewrite_unit limit v c unit p) (old_read v c unit) o → OldMeans o
    unfolding kept_by old_bytes verified
    means-same (Refused n) h = h
    means-same Untouched h = h
    means-same Unread h = h
    means-same Verified h = h

    -- it is so
    pub old-means : OldMeans (old_as c unit (inspect_unit v c.object c.old_size unit))
    unfolding old_as rewrite_unit old_read
    old-means =
        means-same (old_as c unit (inspect_unit v c.object c.old_size unit)) (means-found (reads_old c unit) (inspect_unit v c.object c.old_size unit))

    module _ (bytes : List ℕ) (kept : List (Option ℕ)) where
      -- the unit where its blocks are these
      laid : Rewritten
      laid = lay_out v c unit bytes kept (given_blocks v.blocks v.used p.taken p.hint kept)

      -- the number by the tests of 13 and 14
      number-of : (a b : Bool) → step_number (pick a then stopped no_space else pick b then stopped count_disagrees else rewritten laid)
          ≡ (pick a then number_of no_space else pick b then number_of count_disagrees else 0)
      unfolding step_number pick◌then◌else◌
      number-of true b = refl
      number-of false true = refl
      number-of false false = refl

      -- the number of a unit that is given blocks
      pub lay-number : step_number (allocate_unit v c unit p bytes kept)
          ≡ lay_number v.blocks v.used p.taken p.hint p.allocated (unit_mapping v c.object unit unit_blocks) kept
      unfolding laid allocate_unit counted is_count_off allocated_after lay_number count_wrong count_after given_blocks lay_out
      lay-number = number-of (too_few v.blocks v.used p.taken (wanted kept)) (is_count_off p.allocated laid)

      -- the step where the number is 0
      step_of : (a b : Bool) → ◌≡◌ {A = ℕ} (pick a then number_of no_space else pick b then number_of count_disagrees else 0) 0
          → ((pick a then stopped no_space else pick b then stopped count_disagrees else rewritten laid) ≡ rewritten laid) × (a ≡ false)
      unfolding number_of pick◌then◌else◌
      step_of true b h = absurd (omega (arith, h))
      step_of false true h = absurd (omega (arith, h))
      step_of false false h = (refl, refl)

      -- what it becomes where it is not refused
      pub lay_done : lay_number v.blocks v.used p.taken p.hint p.allocated (unit_mapping v c.object unit unit_blocks) kept ≡ 0
          → (allocate_unit v c unit p bytes kept ≡ rewritten (lay_out v c unit bytes kept (given_blocks v.blocks v.used p.taken p.hint kept)))
          × (length (given_blocks v.blocks v.used p.taken p.hint kept) ≡ wanted kept)
      unfolding laid allocate_unit counted is_count_off allocated_after lay_number count_wrong count_after given_blocks lay_out
      lay_done h =
          let r = step_of (too_few v.blocks v.used p.taken (wanted kept)) (is_count_off p.allocated laid) h in
          (r.0, length-allocate_data v.blocks v.used p.hint p.taken (wanted kept) r.1)
