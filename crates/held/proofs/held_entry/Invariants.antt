-- The loop keeps: the extents before `i` map no such block.
-- Assumes nothing.
use Prim.Native.Nat.{◌-◌}
use Rattle.held.proofs.SearchLaws.{Passed}
use Rattle.held.proofs.held_entry.Given as goal

abbrev pub invariant-loop-i : goal.invariant-loop-i
invariant-loop-i l = Passed l.object l.block l.k l.held l.i

abbrev pub decreases-loop-i : goal.decreases-loop-i
decreases-loop-i l = l.k - l.i
