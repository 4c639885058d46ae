-- The loop keeps: the entries before `i` are those of their blocks.
-- Assumes nothing.
use Prim.Native.Nat.{◌-◌}
use lib.ListN.{length, take}
use Rattle.held.specs.Held.{Mapped}
use Rattle.held.proofs.map_held.Given as goal

abbrev pub invariant-loop-i : goal.invariant-loop-i
invariant-loop-i l = Mapped l.object l.first (take l.k l.a) l.blocks l.i

abbrev pub decreases-loop-i : goal.decreases-loop-i
decreases-loop-i l = length l.blocks - l.i
