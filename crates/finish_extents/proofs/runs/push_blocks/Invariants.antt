-- `finish_extents::runs::push_blocks` meets its contract.
-- Assumes nothing.
use mathlib.Core.Path.{◌≡◌}
use Prim.Native.Nat.{◌+◌, ◌≤◌}
use lib.ListN.{length}
use Rattle.finish_extents.specs.Stretch.{singles, PushedAll}
use Rattle.finish_extents.proofs.runs.push_blocks.Given as goal

abbrev pub invariant-loop-f : goal.invariant-loop-f
invariant-loop-f l =
    (l.f ≤ length l.blocks) × (l.n ≤ l.count + l.f) × (length l.made ≡ length l.initial.made) × PushedAll l.count l.initial.made (singles l.object l.units l.blocks l.f) l.n l.made
