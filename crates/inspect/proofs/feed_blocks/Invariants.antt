-- `inspect::feed_blocks` meets its contract. The loop keeps: the valid bytes in front of block `i` have been fed.
-- Assumes nothing.
use mathlib.Core.Path.{◌≡◌}
use mathlib.Core.List.{List, []}
use Prim.Native.Nat.{ℕ, ◌-◌, ◌≤◌}
use lib.ListN.{length}
use Rattle.crc32c.specs.Unit.{UnitFed}
use Rattle.inspect.specs.Runs.{bytes_before}
use Rattle.inspect.proofs.feed_blocks.Given as goal

abbrev pub invariant-loop-i : goal.invariant-loop-i
invariant-loop-i l =
    (l.i ≤ l.n) × (length l.w ≡ 4624) × ((uuid : List ℕ) (object unit m : ℕ) → UnitFed l.initial.fed l.initial.w uuid object unit m [] → UnitFed l.fed l.w uuid object unit m (bytes_before l.image l.blocks l.n l.valid l.i))

abbrev pub decreases-loop-i : goal.decreases-loop-i
decreases-loop-i l = l.n - l.i
