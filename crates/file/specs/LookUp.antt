-- What is looked up of the units of a change before its plan is made.
-- Assumes nothing.
use Rattle.std.specs.Prelude.{◌≡◌, List, map, ℕ, ◌*◌, ◌^◌, ◌≤◌, ◌<◌, get_or}
use Rattle.std.proofs.Math.Option.{Option}
use Rattle.rules.specs.Lists.{range}
use Rattle.rules.specs.Sizes.{unit_blocks, most_blocks}
use Rattle.rules.specs.Bytes.{part}
use Rattle.mapping.specs.Entries.{entry_of, entries}

-- an array has, sixteen to a unit, what f says of the blocks of the first k units
pub record EachBlock (f : ℕ → Option ℕ) (k : ℕ) (units old : List ℕ) : Type 0 where
  pub each : (j : ℕ) → j < k → entries (part (unit_blocks * j) unit_blocks old) ≡ map f (range (get_or units j 0 * unit_blocks) unit_blocks)
  pub most : (i : ℕ) → i < unit_blocks * k → get_or old i 0 ≤ most_blocks

-- an array has what f says of the first k units
pub record EachUnit (f : ℕ → Option ℕ) (k : ℕ) (units slots : List ℕ) : Type 0 where
  pub each : (j : ℕ) → j < k → entry_of (get_or slots j 0) ≡ f (get_or units j 0)
  pub most : (j : ℕ) → j < k → get_or slots j 0 ≤ 2 ^ 32
