-- `stretches::put_stretches` meets its contract.
-- Assumes nothing.
use Prim.Native.Nat.{◌<◌}
use mathlib.Core.Path.{◌≡◌}
use lib.ListN.{length}
use Rattle.presence.specs.Units.{Placed, groups_in, slotted, stretches_from}
use Rattle.stretches.proofs.ListLaws.{Written}
use Rattle.stretches.proofs.put_stretches.Given as goal

abbrev pub invariant-loop-unit : goal.invariant-loop-unit
invariant-loop-unit l =
    Written (stretches_from (slotted (groups_in l.n l.groups) l.object) l.first l.end) l.initial.out l.i (stretches_from (slotted (groups_in l.n l.groups) l.object) l.unit l.end) l.out
    × (length l.out ≡ length l.initial.out)
    × (l.unit < l.end → Placed l.n l.groups l.object l.unit l.place)

abbrev pub decreases-loop-unit : goal.decreases-loop-unit
decreases-loop-unit l = length (stretches_from (slotted (groups_in l.n l.groups) l.object) l.unit l.end)
