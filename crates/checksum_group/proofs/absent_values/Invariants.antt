-- `checksum_group::absent_values` meets its contract.
-- Assumes nothing.
use mathlib.Core.Path.{◌≡◌}
use Prim.Native.Nat.{◌-◌, ◌*◌, ◌≤◌}
use lib.Dec.{eqb}
use Rattle.rules.specs.Lists.{range, all}
use Rattle.rules.specs.Bytes.{part}
use Rattle.rules.specs.Group.{group_bytes}
use Rattle.checksum_group.specs.Slots.{slot_right}
use Rattle.checksum_group.proofs.absent_values.Given as goal

abbrev pub invariant-loop-k : goal.invariant-loop-k
invariant-loop-k l =
    (l.k ≤ 8) × (eqb l.any 0 ≡ all (slot_right (part l.at group_bytes l.s)) (range (8 * l.b) l.k))
