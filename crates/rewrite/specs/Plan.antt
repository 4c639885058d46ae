-- What a plan fixes of each unit: its kept blocks and its new ones. The bytes and checksums of a rewritten unit follow from the volume and the change.
-- Assumes nothing.
use Rattle.std.specs.Prelude.{List, [], ◌∷◌, Bool, true, false, ℕ, take, drop}
use Rattle.std.proofs.Math.Option.{Option, none, some}
use Rattle.rules.specs.Lists.{pick◌then◌else◌}
use Rattle.rules.specs.Sizes.{unit_blocks}
use Rattle.rules.specs.Checksum.{unit_checksum}
use Rattle.rules.specs.Store.{Volume}
use Rattle.rules.specs.Units.{Change, reads_old, assembled}
use Rattle.rules.specs.Inspect.{Inspected, inspect_unit, unit_mapping}
use Rattle.rules.specs.Inspect.Inspected.{damaged, hole, checked}
use Rattle.rules.specs.Kept.{blocks_after, retained_blocks, superseded}
use Rattle.rules.specs.Rewrite.{Rewritten, Plan, prepend}

-- the bytes of a unit that was read and checked; a hole has none of its own
unfoldable pub found_bytes : Inspected → List ℕ
found_bytes (damaged r) = []
found_bytes hole = []
found_bytes (checked xs) = xs

-- it was checked
unfoldable pub found_checked : Inspected → Bool
found_checked (damaged r) = false
found_checked hole = false
found_checked (checked xs) = true

-- the blocks whose places are not kept
unfoldable pub new_of : List (Option ℕ) → List ℕ → List ℕ
new_of [] blocks = []
new_of (k ∷ kept) [] = []
new_of (some p ∷ kept) (b ∷ blocks) = new_of kept blocks
new_of (none ∷ kept) (b ∷ blocks) = b ∷ new_of kept blocks

-- a unit of a change to a file of a volume
module _ (v : Volume) (c : Change) (unit : ℕ) where
  -- what stood in it, as far as it is read
  unfoldable pub old_read : Inspected
  old_read = pick reads_old c unit then inspect_unit v c.object c.old_size unit else hole

  -- its old bytes: none where they are not read or there are none
  unfoldable pub old_bytes : List ℕ
  old_bytes = found_bytes old_read

  -- they were read and checked
  unfoldable pub verified : Bool
  verified = found_checked old_read

-- the same, with a limit of runs
module _ (limit : ℕ) (v : Volume) (c : Change) where
  -- what it keeps
  unfoldable pub kept_by : ℕ → List (Option ℕ)
  kept_by unit = retained_blocks limit c unit (verified v c unit) (unit_mapping v c.object unit unit_blocks)

  -- what it becomes where its blocks are the first of these, as many as it has then
  unfoldable pub laid_unit : ℕ → List ℕ → Rewritten
  laid_unit unit blocks = record {
    unit = unit;
    bytes = assembled c unit (old_bytes v c unit);
    checksum = unit_checksum v.uuid c.object unit (assembled c unit (old_bytes v c unit));
    kept = kept_by unit;
    blocks = take (blocks_after c unit) blocks;
    new = new_of (kept_by unit) (take (blocks_after c unit) blocks);
    superseded = superseded (unit_mapping v c.object unit unit_blocks) (kept_by unit);
  }

  -- what several become, where each has sixteen of these blocks in turn
  unfoldable pub laid_units : List ℕ → List ℕ → List Rewritten
  laid_units [] blocks = []
  laid_units (u ∷ us) blocks = laid_unit u blocks ∷ laid_units us (drop unit_blocks blocks)

-- rewritten units, and the plan of those after them
unfoldable pub prepend_all : List Rewritten → Plan → Plan
prepend_all [] plan = plan
prepend_all (r ∷ rs) plan = prepend r (prepend_all rs plan)
