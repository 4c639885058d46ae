-- `mapping::extents::hold_ahead` meets its contract.
-- Assumes nothing.
use mathlib.Core.Path.{◌≡◌}
use Prim.Native.Nat.{◌-◌, ◌≤◌}
use lib.ListN.{length}
use Rattle.mapping.specs.Held.{most_stretch}
use Rattle.mapping.proofs.HeldLaws.{Holding}
use Rattle.mapping.proofs.extents.hold_ahead.Given as goal

abbrev pub invariant-loop-k : goal.invariant-loop-k
invariant-loop-k l =
    (length l.held ≡ most_stretch) × (l.k ≤ most_stretch) × Holding l.object l.limit l.n l.extents l.place l.held l.k

abbrev pub decreases-loop-k : goal.decreases-loop-k
decreases-loop-k l = l.n - l.place - l.k
