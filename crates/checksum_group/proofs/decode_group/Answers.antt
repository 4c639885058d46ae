-- `checksum_group::decode_group` meets its contract.
-- Assumes nothing.
use native.Mathlib.Omega.{arith}
use Rattle.checksum_group.specs.Slots.{slots_of}
use Rattle.checksum_group.proofs.SlotLaws.{group-read, copied-whole}
use Rattle.checksum_group.proofs.decode_group.Goals as goal

pub returns : goal.returns
unfolding slots_of
returns c = group-read _ _ _ _ (copied-whole 32 _ _ _ (omega arith) c.copy_part.ensures) c.read_slots-slots.ensures
