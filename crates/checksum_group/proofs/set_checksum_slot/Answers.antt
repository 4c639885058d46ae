-- `checksum_group::set_checksum_slot` meets its contract.
-- Assumes nothing.
use Rattle.rules.specs.Group.{set_checksum_slot}
use Rattle.checksum_group.specs.Slots.{group_of, crc_of}
use Rattle.checksum_group.proofs.SlotLaws.{group-same}
use Rattle.checksum_group.proofs.set_checksum_slot.Goals as goal

pub returns-in-Some : goal.returns-in-Some
unfolding set_checksum_slot group_of crc_of
returns-in-Some c = λ object number. rw c.in-Some.is (group-same object number _ _ c.with_slot.ensures)

pub returns-in-None : goal.returns-in-None
unfolding set_checksum_slot group_of crc_of
returns-in-None c = λ object number. rw c.in-None.is (group-same object number _ _ c.without_slot.ensures)
