-- `checksum_group::absent_zero` meets its contract.
-- Assumes nothing.
use mathlib.Core.Path.{◌≡◌}
use Prim.Native.Nat.{◌-◌, ◌*◌, ◌≤◌}
use lib.Dec.{eqb}
use Rattle.rules.specs.Lists.{range, all}
use Rattle.rules.specs.Bytes.{part}
use Rattle.rules.specs.Group.{group_bytes}
use Rattle.checksum_group.specs.Slots.{slot_right}
use Rattle.checksum_group.proofs.absent_zero.Given as goal

abbrev pub invariant-loop-b : goal.invariant-loop-b
invariant-loop-b l =
    (l.b ≤ 32) × (eqb l.any 0 ≡ all (slot_right (part l.at group_bytes l.s)) (range 0 (8 * l.b)))
