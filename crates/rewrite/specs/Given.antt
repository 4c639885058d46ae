-- The blocks that a unit is given, and refusals 13 and 14 of it.
-- Assumes nothing.
use Rattle.std.specs.Prelude.{◌≡◌, Bool, true, not, List, ◌++◌, ℕ, ◌-◌, length, take, replicate}
use Rattle.std.proofs.Math.Option.{Option, none}
use Rattle.rules.specs.Sizes.{unit_blocks}
use Rattle.rules.specs.Kept.{wanted, assigned, superseded}
use Rattle.rules.specs.Allocation.{too_few, hint_after}
use Rattle.allocation.specs.Carried.{Carried}
use Rattle.rewrite.specs.declared.Given.{Given}
use Rattle.mapping.specs.Entries.{entries}
use Rattle.rewrite.specs.declared.Progress.{Progress}
use Rattle.rewrite.specs.declared.UnitPlan.{UnitPlan}
use Rattle.rewrite.specs.Steps.{given_blocks, count_after, lay_number}

-- the answer for a unit that keeps these of its n blocks, on a device of so many blocks, after units that took some and left a hint
pub record Gives (total : ℕ) (used : ℕ → Bool) (taken : List ℕ) (hint : ℕ) (kept : List (Option ℕ)) (n : ℕ) (map blocks : List ℕ) (r : Given) : Type 0 where
  pub enough_is : r.enough ≡ not (too_few total used taken (wanted kept))
  pub count_is : r.count ≡ length (given_blocks total used taken hint kept)
  pub hint_is : r.hint ≡ hint_after hint (given_blocks total used taken hint kept)
  pub carried : Carried total used (taken ++ given_blocks total used taken hint kept) map r.cursors.past
  pub placed : r.enough ≡ true → take n blocks ≡ assigned kept (given_blocks total used taken hint kept)

-- a unit that was laid out: it keeps these and is given blocks, with nothing behind its blocks
pub record Laid (total : ℕ) (used : ℕ → Bool) (taken : List ℕ) (hint allocated : ℕ) (old keep : List (Option ℕ)) (n : ℕ) (map kept blocks : List ℕ) (p : Progress) : Type 0 where
  pub hint_is : p.hint ≡ hint_after hint (given_blocks total used taken hint keep)
  pub count_is : p.allocated ≡ count_after allocated (length (superseded old keep)) (length (given_blocks total used taken hint keep))
  pub carried : Carried total used (taken ++ given_blocks total used taken hint keep) map p.cursors.past
  pub keeps : entries kept ≡ keep ++ replicate (unit_blocks - n) none
  pub placed : take n blocks ≡ assigned keep (given_blocks total used taken hint keep)

-- the answer for it: 13, 14, or 0 and what it leaves
pub record Lays (total : ℕ) (used : ℕ → Bool) (taken : List ℕ) (hint allocated : ℕ) (old keep : List (Option ℕ)) (n : ℕ) (map kept blocks : List ℕ) (r : UnitPlan) : Type 0 where
  pub number_is : r.number ≡ lay_number total used taken hint allocated old keep
  pub done : r.number ≡ 0 → Laid total used taken hint allocated old keep n map kept blocks r.progress
