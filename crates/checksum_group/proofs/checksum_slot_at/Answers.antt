-- `checksum_group::checksum_slot_at` meets its contract.
-- Assumes nothing.
use borrow.Author.Rules.{rules}
use Rattle.rules.specs.Group.{checksum_slot}
use Rattle.checksum_group.specs.Slots.{crc_of}
use Rattle.checksum_group.proofs.SlotLaws.{read-present, read-absent}
use Rattle.checksum_group.proofs.checksum_slot_at.Goals as goal

pub returns-then-bit_at : goal.returns-then-bit_at
unfolding checksum_slot crc_of
returns-then-bit_at c = search (read-present, rules)

pub returns-else-bit_at : goal.returns-else-bit_at
unfolding checksum_slot crc_of
returns-else-bit_at c = search (read-absent, rules)
