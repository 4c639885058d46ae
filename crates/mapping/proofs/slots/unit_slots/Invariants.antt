-- `mapping::slots::unit_slots` meets its contract.
-- Assumes nothing.
use mathlib.Core.Path.{◌≡◌}
use Prim.Native.Nat.{◌-◌, ◌≤◌}
use lib.ListN.{length}
use Rattle.rules.specs.Group.{group_bytes, decode_group}
use Rattle.book.specs.Places.{FoundFirst, group_is}
use Rattle.mapping.proofs.SlotLaws.{Slotted}
use Rattle.mapping.proofs.slots.unit_slots.Given as goal

abbrev pub invariant-loop-i : goal.invariant-loop-i
invariant-loop-i l =
    (l.i ≤ length l.initial.slots) × (length l.slots ≡ length l.initial.slots) × FoundFirst (group_is l.object l.number) decode_group group_bytes l.n l.groups l.found × Slotted l.n l.object l.first l.groups l.slots l.i

abbrev pub decreases-loop-i : goal.decreases-loop-i
decreases-loop-i l = length l.initial.slots - l.i
