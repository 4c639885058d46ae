-- Document 01, "New blocks", and document 02, W-208, "One run where one exists": `allocate_data`.
-- Assumes nothing.
use mathlib.Core.List.{List, ◌++◌, map, flat_map, get_last?}
use Rattle.std.specs.Prelude.{Bool, not, ◌&&◌, ℕ, suc, ◌+◌, ◌-◌, ◌*◌, ◌/◌, ◌%◌, min, eqb, ltb, length, take}
use Rattle.std.proofs.Math.Option.{Option}
use Rattle.rules.specs.Lists.{pick◌then◌else◌, maybe, range, all, filter, find, first_given, member, begun}
use Rattle.rules.specs.Sizes.{group_blocks}

-- the allocation groups of a store
unfoldable pub allocation_groups : ℕ → ℕ
allocation_groups blocks = begun blocks group_blocks

-- "groups from the hint modulo their number, cyclic"
unfoldable pub group_order : ℕ → ℕ → List ℕ
group_order groups hint = map (λ i. (hint % groups + i) % groups) (range 0 groups)

-- a group's first block
unfoldable pub group_start : ℕ → ℕ
group_start group = group * group_blocks

-- the block after its last: the last group may be shorter
unfoldable pub group_end : ℕ → ℕ → ℕ
group_end blocks group = min (group_start group + group_blocks) blocks

-- a group, and the blocks taken by this call
module _ (blocks : ℕ) (taken : List ℕ) (group : ℕ) where
  -- "the highest block taken by this call in that group"
  unfoldable pub highest : Option ℕ
  highest = get_last? (filter (λ b. member b taken) (range (group_start group) (group_end blocks group - group_start group)))

  -- the block after it; "its start if none, or if that was its last"
  unfoldable pub cursor : ℕ
  cursor = maybe (group_start group) (λ b. pick eqb (suc b) (group_end blocks group) then group_start group else suc b) highest

  -- "in each, from after the highest block taken by this call in that group [..], then around"
  unfoldable pub searched : List ℕ
  searched = range cursor (group_end blocks group - cursor) ++ range (group_start group) (cursor - group_start group)

-- "A free block is one whose used bit is clear." Free, and untaken by this call
unfoldable pub available : (ℕ → Bool) → List ℕ → ℕ → Bool
available used taken b = not (used b) && not (member b taken)

-- the available blocks in the order in which they are found
unfoldable pub found : ℕ → (ℕ → Bool) → ℕ → List ℕ → List ℕ
found blocks used hint taken =
    filter (available used taken) (flat_map (searched blocks taken) (group_order (allocation_groups blocks) hint))

-- these blocks ascending
unfoldable pub sorted : ℕ → List ℕ → List ℕ
sorted blocks bs = filter (λ b. member b bs) (range 0 blocks)

-- 13: "Fewer blocks have a clear used bit and are untaken by this call's earlier units than the unit wants."
unfoldable pub too_few : ℕ → (ℕ → Bool) → List ℕ → ℕ → Bool
too_few blocks used taken n = ltb (length (filter (available used taken) (range 0 blocks))) n

-- the n blocks that are found first, ascending: document 01's rule, which W-208 calls "the present rule"
unfoldable pub found_first : ℕ → (ℕ → Bool) → ℕ → List ℕ → ℕ → List ℕ
found_first blocks used hint taken n = sorted blocks (take n (found blocks used hint taken))

-- W-208. The store's blocks, which of them are free and not taken, and how many are wanted
module _ (blocks : ℕ) (free : ℕ → Bool) (n : ℕ) where
  -- the lowest n free blocks side by side in a group, told by the first of them: where its "lowest such run" begins, of those "at least as long as wanted".
  -- "A run does not cross a group's end": the last place at which n blocks begin is n before it
  unfoldable pub run_in : ℕ → Option ℕ
  run_in group = find (λ b. all free (range b n)) (range (group_start group) (suc (group_end blocks group - group_start group) - n))

  -- "goes through the groups from the hint, cyclic, and in the first group that has a run [..]"
  unfoldable pub first_run : ℕ → Option ℕ
  first_run hint = first_given (map run_in (group_order (allocation_groups blocks) hint))

-- `allocate_data`: "it takes the first blocks of the lowest such run", "before the present rule"
unfoldable pub allocate_data : ℕ → (ℕ → Bool) → ℕ → List ℕ → ℕ → List ℕ
allocate_data blocks used hint taken n =
    maybe (found_first blocks used hint taken n) (λ b. range b n) (first_run blocks (available used taken) n hint)

-- "The hint becomes the group of the last one so assigned, if any."
unfoldable pub hint_after : ℕ → List ℕ → ℕ
hint_after hint new = maybe hint (λ b. b / group_blocks) (get_last? new)
