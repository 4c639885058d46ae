-- `checksum_group::put_slots` meets its contract.
-- Assumes nothing.
use mathlib.Core.Path.{◌≡◌}
use mathlib.Core.List.{flat_map}
use Prim.Native.Nat.{◌-◌, ◌≤◌}
use lib.ListN.{length, take}
use Rattle.rules.specs.Bytes.{patch}
use Rattle.rules.specs.Group.{slot_bytes}
use Rattle.checksum_group.specs.Slots.{slots_from}
use Rattle.checksum_group.proofs.put_slots.Given as goal

abbrev pub invariant-loop-i : goal.invariant-loop-i
invariant-loop-i l =
    (l.i ≤ 256) × (length l.s ≡ length l.initial.s) × (l.s ≡ patch l.initial.s l.at (flat_map slot_bytes (take l.i (slots_from l.present l.slots))))
