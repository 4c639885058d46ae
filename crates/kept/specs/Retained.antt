-- What is kept of a unit's blocks, as entries of an array.
-- Assumes nothing.
use Rattle.std.specs.Prelude.{◌≡◌, ◌⊎◌, Bool, List, map, ◌++◌, ℕ, ◌-◌, ◌≤◌, leb, take, get_or, replicate}
use Rattle.rules.specs.Lists.{pick◌then◌else◌, range}
use Rattle.rules.specs.Sizes.{unit_blocks}
use Rattle.rules.specs.Units.{Change}
use Rattle.rules.specs.Kept.{blocks_after, runs, retained_blocks}
use Rattle.mapping.specs.Entries.{entries}
use Rattle.kept.specs.Change.{intact_at}

-- the first n entries with those of blocks that are not intact taken out
unfoldable pub candidate_entries : (settled start end from n : ℕ) → List ℕ → List ℕ
candidate_entries settled start end from n old = map (λ i. pick intact_at settled start end from i then get_or old i 0 else 0) (range 0 n)

-- the first n entries with nothing behind them, and no entry at all where those blocks form more runs than the limit
unfoldable pub limited_entries : (limit n : ℕ) → List ℕ → List ℕ
limited_entries limit n kept =
    pick leb (runs (entries (take n kept))) limit then take n kept ++ replicate (unit_blocks - n) 0 else replicate unit_blocks 0

-- each entry is none or the old one of its place, and there are n
pub record FromOld (old kept : List ℕ) (n : ℕ) : Type 0 where
  pub few : n ≤ unit_blocks
  pub each : (i : ℕ) → (get_or kept i 0 ≡ 0) ⊎ (get_or kept i 0 ≡ get_or old i 0)
  pub rest : (i : ℕ) → n ≤ i → get_or kept i 0 ≡ 0

-- the first n entries are what the rules keep
pub record Retained (limit : ℕ) (c : Change) (unit : ℕ) (verified : Bool) (old kept : List ℕ) (n : ℕ) : Type 0 where
  pub count : n ≡ blocks_after c unit
  pub list : entries (take n kept) ≡ retained_blocks limit c unit verified (entries old)
