-- The plan of a change over lent buffers: what it needs of them, the volume and the change that they describe, and what it answers.
-- Assumes nothing.
use Rattle.std.specs.Prelude.{◌≡◌, true, List, ℕ, ◌*◌, ◌/◌, ◌≤◌, ◌<◌, length, drop, get_or}
use Rattle.rules.specs.Sizes.{block_bytes, unit_blocks, unit_bytes}
use Rattle.rules.specs.Bytes.{part, bit_set}
use Rattle.rules.specs.Map.{map_bytes}
use Rattle.rules.specs.Group.{group_bytes, decode_group}
use Rattle.rules.specs.Book.{decode_book}
use Rattle.rules.specs.Store.{Volume}
use Rattle.rules.specs.Units.{Change, touches}
use Rattle.rules.specs.Rewrite.{Progress, rewrite_units}
use Rattle.rules.specs.Rewrite.Plan.{planned}
use Rattle.rules.specs.Answers.{plan_number}
use Rattle.mapping.specs.Entries.{extents_in, ExtentsRight}
use Rattle.rewrite.specs.Plan.{laid_units}
use Rattle.rewrite.specs.Arguments.{Described, LookedUp}
use Rattle.rewrite.specs.Answers.{from_card, Placed}
use Rattle.kept.specs.declared.Change as numbers
use Rattle.rewrite.specs.declared.Plan as answer

-- the buffers of a store of at least a block, in which units can be looked up and planned
pub record PlanReady (image extents groups used : List ℕ) (e g : ℕ) : Type 0 where
  pub some : 0 < length image / block_bytes
  pub right : ExtentsRight (length image / block_bytes) e extents
  pub places : group_bytes * g ≤ length groups
  pub map : length used ≡ map_bytes (length image / block_bytes)

-- the arrays of a plan before anything is looked up: a slot for each unit, and sixteen entries in each of the others; each unit begins in the file as it will be
pub record PlanRoom (new-size : ℕ) (units slots old kept blocks : List ℕ) : Type 0 where
  pub slot_each : length slots ≡ length units
  pub old_each : length old ≡ unit_blocks * length units
  pub kept_each : length kept ≡ unit_blocks * length units
  pub blocks_each : length blocks ≡ unit_blocks * length units
  pub begins : (i : ℕ) → get_or units i 0 * unit_bytes ≤ new-size

-- the buffers say this volume, and the numbers this change of an object's file in it. Each unit but the first is touched
pub record ChangeFor (image uuid extents groups used : List ℕ) (e g object : ℕ) (n : numbers.Change) (units : List ℕ) (v : Volume) (c : Change) : Type 0 where
  pub described : Described image uuid (length image / block_bytes) object n v c
  pub extents_is : v.books.extents ≡ extents_in e extents
  pub groups_is : v.books.groups ≡ decode_book decode_group group_bytes g groups
  pub used_is : v.used ≡ bit_set used
  pub touched : (i : ℕ) → 0 < i → i < length units → touches c (get_or units i 0) ≡ true

module _ (limit : ℕ) (v : Volume) (c : Change) (units : List ℕ) (p : Progress) where
  -- all units are planned: what each keeps and its blocks stand in the arrays. The map in which blocks were taken is a copy and says nothing more
  pub record AllSettled (kept blocks : List ℕ) (r : answer.Plan) : Type 0 where
    pub left : Progress
    pub hint : left.hint ≡ r.hint
    pub allocated : left.allocated ≡ r.allocated
    pub plan : rewrite_units limit v c units p ≡ planned (laid_units limit v c (drop r.skip units) (drop (unit_blocks * r.skip) blocks)) left
    pub placed : (j : ℕ) → r.skip ≤ j → j < length units → Placed limit v c (get_or units j 0) (part (unit_blocks * j) unit_blocks kept) (part (unit_blocks * j) unit_blocks blocks)
    pub first : r.skip ≤ 1

  -- the answer to them
  pub record UnitsSettled (kept blocks : List ℕ) (r : answer.Plan) : Type 0 where
    pub number : plan_number (rewrite_units limit v c units p) ≡ r.number
    pub done : r.number ≡ 0 → AllSettled kept blocks r

-- the units are looked up, and the plan is that of the rules from the head's hint and the card's count on
pub record ChangePlanned (limit : ℕ) (v : Volume) (c : Change) (units : List ℕ) (hint allocated : ℕ) (slots old kept blocks : List ℕ) (r : answer.Plan) : Type 0 where
  pub each : (i : ℕ) → i < length units → LookedUp v c (get_or units i 0) (get_or slots i 0) (part (unit_blocks * i) unit_blocks old)
  pub number : plan_number (rewrite_units limit v c units (from_card hint allocated)) ≡ r.number
  pub done : r.number ≡ 0 → AllSettled limit v c units (from_card hint allocated) kept blocks r
