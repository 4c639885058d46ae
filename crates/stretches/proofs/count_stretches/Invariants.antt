-- `stretches::count_stretches` meets its contract.
-- Assumes nothing.
use Prim.Native.Nat.{◌≤◌, ◌<◌}
use lib.ListN.{length}
use Rattle.presence.specs.Units.{Placed, groups_in, slotted, stretches_from}
use Rattle.stretches.proofs.ListLaws.{Counted}
use Rattle.stretches.proofs.count_stretches.Given as goal

abbrev pub invariant-loop-unit : goal.invariant-loop-unit
invariant-loop-unit l =
    Counted (stretches_from (slotted (groups_in l.n l.groups) l.object) l.first l.end) l.count (stretches_from (slotted (groups_in l.n l.groups) l.object) l.unit l.end)
    × (l.count ≤ l.unit)
    × (l.unit < l.end → Placed l.n l.groups l.object l.unit l.place)

abbrev pub decreases-loop-unit : goal.decreases-loop-unit
decreases-loop-unit l = length (stretches_from (slotted (groups_in l.n l.groups) l.object) l.unit l.end)
