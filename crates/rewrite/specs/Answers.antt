-- What a plan's answers say: of one unit, of the units so far, and of all.
-- Assumes nothing.
use Rattle.std.specs.Prelude.{◌≡◌, true, false, ◌||◌, List, [], ◌++◌, ℕ, ◌-◌, ◌*◌, ◌≤◌, ◌<◌, length, drop, get_or, replicate}
use Rattle.std.proofs.Math.Option.{none}
use Rattle.rules.specs.Lists.{member}
use Rattle.rules.specs.Sizes.{unit_blocks}
use Rattle.rules.specs.Bytes.{part, patch, bit_set}
use Rattle.rules.specs.Store.{Volume}
use Rattle.rules.specs.Units.{Change, touches}
use Rattle.rules.specs.Kept.{blocks_after}
use Rattle.rules.specs.Rewrite.{Progress, rewrite_unit, after, rewrite_units}
use Rattle.rules.specs.Rewrite.Step.{untouched, rewritten}
use Rattle.rules.specs.Rewrite.Plan.{planned}
use Rattle.rules.specs.Answers.{step_number, plan_number}
use Rattle.mapping.specs.Entries.{entries}
use Rattle.allocation.specs.Carried.{Carried}
use Rattle.rewrite.specs.Plan.{kept_by, laid_unit, laid_units, prepend_all}
use Rattle.rewrite.specs.declared.Progress as code
use Rattle.rewrite.specs.declared.UnitPlan.{UnitPlan}
use Rattle.rewrite.specs.declared.Plan as answer

-- the rules' progress before the first unit: nothing is taken, and the hint and the card's count stand
abbrev pub from_card : ℕ → ℕ → Progress
from_card hint allocated = record { taken = []; hint = hint; allocated = allocated }

-- the code's progress is that of the rules: the blocks taken stand beside the used ones in the map
pub record Carries (v : Volume) (p : Progress) (map : List ℕ) (n : code.Progress) : Type 0 where
  pub hint : p.hint ≡ n.hint
  pub allocated : p.allocated ≡ n.allocated
  pub taken : Carried v.blocks v.used p.taken map n.cursors.past

-- sixteen entries are what the unit keeps, with nothing behind its blocks, and its blocks are those of the device
pub record Placed (limit : ℕ) (v : Volume) (c : Change) (unit : ℕ) (kept blocks : List ℕ) : Type 0 where
  pub keeps : entries kept ≡ kept_by limit v c unit ++ replicate (unit_blocks - blocks_after c unit) none
  pub below : (k : ℕ) → k < blocks_after c unit → get_or blocks k 0 < v.blocks

-- only the sixteen entries of the unit at place i have changed
pub record ChangedAt (i : ℕ) (s t : List ℕ) : Type 0 where
  pub rest : t ≡ patch s (unit_blocks * i) (part (unit_blocks * i) unit_blocks t)
  pub long : length t ≡ length s

-- a unit, with the rules' progress before it
module _ (limit : ℕ) (v : Volume) (c : Change) (unit : ℕ) (p : Progress) where
  -- a unit that is an untouched hole: nothing changes
  pub record StaysHole (map : List ℕ) (n : code.Progress) : Type 0 where
    pub step : rewrite_unit limit v c unit p ≡ untouched
    pub apart : touches c unit ≡ false
    pub carries : Carries v p map n

  -- a unit that is rewritten, what it keeps and its blocks
  pub record Relaid (map kept blocks : List ℕ) (n : code.Progress) : Type 0 where
    pub step : rewrite_unit limit v c unit p ≡ rewritten (laid_unit limit v c unit blocks)
    pub placed : Placed limit v c unit kept blocks
    pub carries : Carries v (after p (laid_unit limit v c unit blocks)) map n

  -- the answer to it
  pub record UnitPlanned (map kept blocks : List ℕ) (r : UnitPlan) : Type 0 where
    pub number : step_number (rewrite_unit limit v c unit p) ≡ r.number
    pub hole : r.number ≡ 0 → r.rewritten ≡ false → StaysHole map r.progress
    pub done : r.number ≡ 0 → r.rewritten ≡ true → Relaid map kept blocks r.progress

-- the units of a change, with the rules' progress before them
module _ (limit : ℕ) (v : Volume) (c : Change) (units : List ℕ) (p : Progress) where
  -- the first i of them are planned, of which skip are untouched holes
  pub record Planning (i skip : ℕ) (map kept blocks : List ℕ) (n : code.Progress) : Type 0 where
    pub left : Progress
    pub carries : Carries v left map n
    pub plan : rewrite_units limit v c units p
        ≡ prepend_all (laid_units limit v c (part skip (i - skip) units) (drop (unit_blocks * skip) blocks)) (rewrite_units limit v c (drop i units) left)
    pub placed : (j : ℕ) → skip ≤ j → j < i → Placed limit v c (get_or units j 0) (part (unit_blocks * j) unit_blocks kept) (part (unit_blocks * j) unit_blocks blocks)
    pub first : skip ≤ 1

  -- all of them are
  pub record AllPlanned (map kept blocks : List ℕ) (r : answer.Plan) : Type 0 where
    pub left : Progress
    pub hint : left.hint ≡ r.hint
    pub allocated : left.allocated ≡ r.allocated
    pub plan : rewrite_units limit v c units p ≡ planned (laid_units limit v c (drop r.skip units) (drop (unit_blocks * r.skip) blocks)) left
    pub placed : (j : ℕ) → r.skip ≤ j → j < length units → Placed limit v c (get_or units j 0) (part (unit_blocks * j) unit_blocks kept) (part (unit_blocks * j) unit_blocks blocks)
    pub first : r.skip ≤ 1
    pub marked : (b : ℕ) → b < v.blocks → bit_set map b ≡ (v.used b || member b left.taken)

  -- the answer to them
  pub record UnitsPlanned (map kept blocks : List ℕ) (r : answer.Plan) : Type 0 where
    pub number : plan_number (rewrite_units limit v c units p) ≡ r.number
    pub done : r.number ≡ 0 → AllPlanned map kept blocks r
