-- The blocks that a call has taken so far, as the code carries them, and the answer to one unit.
-- Assumes nothing.
use Rattle.std.specs.Prelude.{◌≡◌, Bool, not, ◌||◌, List, [], ◌∷◌, ◌++◌, ℕ, suc, ◌*◌, ◌/◌, ◌<◌, ltb, leb, length, get_or, set}
use Rattle.rules.specs.Lists.{pick◌then◌else◌, maybe, member}
use Rattle.rules.specs.Bytes.{bit_set}
use Rattle.rules.specs.Sizes.{group_blocks}
use Rattle.rules.specs.Allocation.{allocation_groups, highest, too_few, allocate_data, hint_after}
use Rattle.allocation.specs.Search.{held}
use Rattle.allocation.specs.declared.taken.Taken.{Taken}
use Rattle.allocation.specs.declared.Allocated.{Allocated}

-- what is past the highest block taken in a group; 0 where none was
unfoldable pub past_highest : ℕ → List ℕ → ℕ → ℕ
past_highest blocks taken g = maybe 0 suc (highest blocks taken g)

-- The blocks taken stand beside the used ones in a map, and for each group there is what is past the highest of them.
pub record Carried (blocks : ℕ) (used : ℕ → Bool) (taken : List ℕ) (map past : List ℕ) : Type 0 where
  pub bits : (b : ℕ) → b < blocks → bit_set map b ≡ (used b || member b taken)
  pub places : length past ≡ 4
  pub highs : (g : ℕ) → g < allocation_groups blocks → get_or past g 0 ≡ past_highest blocks taken g

-- a map with the blocks set in it
pub record Marked (map new after : List ℕ) : Type 0 where
  pub places : length after ≡ length map
  pub bits : (b : ℕ) → b < 8 * length map → bit_set after b ≡ (bit_set map b || member b new)

-- what is past the highest of a group, after one more block of it
unfoldable pub above : ℕ → ℕ → ℕ
above past b = pick ltb b past then past else suc b

-- the cursors after a block
unfoldable pub raised : List ℕ → ℕ → List ℕ
raised past b = set past (b / group_blocks) (above (get_or past (b / group_blocks) 0) b)

-- and after several
unfoldable pub raised_all : List ℕ → List ℕ → List ℕ
raised_all past [] = past
raised_all past (b ∷ bs) = raised_all (raised past b) bs

-- the answer with these blocks: the hint and the cursors after them
pub record Answered (t : Taken) (hint : ℕ) (past : List ℕ) (r : Allocated) : Type 0 where
  pub given : r.taken ≡ t
  pub hinted : r.hint ≡ hint_after hint (held t)
  pub raised : r.cursors.past ≡ raised_all past (held t)

-- the answer is the one of the rules: the blocks, whether they are as many as wanted, the hint, and what the next unit is to be asked with
pub record Allocates (blocks : ℕ) (used : ℕ → Bool) (hint : ℕ) (taken : List ℕ) (want : ℕ) (r : Allocated) : Type 0 where
  pub enough : leb want r.taken.count ≡ not (too_few blocks used taken want)
  pub count : r.taken.count ≡ length (allocate_data blocks used hint taken want)
  pub given : held r.taken ≡ allocate_data blocks used hint taken want
  pub hinted : r.hint ≡ hint_after hint (allocate_data blocks used hint taken want)
  pub places : length r.cursors.past ≡ 4
  pub highs : (g : ℕ) → g < allocation_groups blocks → get_or r.cursors.past g 0 ≡ past_highest blocks (taken ++ allocate_data blocks used hint taken want) g
