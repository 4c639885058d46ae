-- `checksum_group::checksum_slot` meets its contract.
-- Assumes nothing.
use borrow.Author.Rules.{rules}
use Rattle.rules.specs.Group.{checksum_slot}
use Rattle.checksum_group.specs.Slots.{slots_of, group_of, crc_of}
use Rattle.checksum_group.proofs.SlotLaws.{slot-present, slot-absent}
use Rattle.checksum_group.proofs.checksum_slot.Goals as goal

pub returns-then-bit_at : goal.returns-then-bit_at
unfolding checksum_slot group_of slots_of crc_of
returns-then-bit_at c = λ object number. search (slot-present, rules)

pub returns-else-bit_at : goal.returns-else-bit_at
unfolding checksum_slot group_of slots_of crc_of
returns-else-bit_at c = λ object number. search (slot-absent, rules)
