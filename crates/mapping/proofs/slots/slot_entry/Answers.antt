-- `mapping::slots::slot_entry` meets its contract.
-- Assumes nothing.
use mathlib.Core.Path.{refl}
use native.Mathlib.Omega.{arith}
use Rattle.mapping.proofs.SlotLaws.{slot-present, slot-absent}
use Rattle.mapping.proofs.slots.slot_entry.Goals as goal

pub returns-in-Some : goal.returns-in-Some
returns-in-Some c = rw c.in-Some.is (slot-present _ _ refl (omega arith))

pub returns-in-None : goal.returns-in-None
returns-in-None c = rw c.in-None.is slot-absent
