-- `checksum_group::slot_value` meets its contract.
-- Assumes nothing.
use borrow.Author.Rules.{rules}
use Rattle.checksum_group.proofs.SlotLaws.{value-present, value-absent}
use Rattle.checksum_group.proofs.slot_value.Goals as goal

pub returns-then-bit_at : goal.returns-then-bit_at
returns-then-bit_at c = search (value-present, rules)

pub returns-else-bit_at : goal.returns-else-bit_at
returns-else-bit_at c = search (value-absent, rules)
