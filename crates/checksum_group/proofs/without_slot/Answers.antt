-- `checksum_group::without_slot` meets its contract.
-- Assumes nothing.
use borrow.Author.Rules.{rules}
use Rattle.checksum_group.specs.Slots.{slots_of}
use Rattle.checksum_group.proofs.SlotLaws.{without-slot}
use Rattle.checksum_group.proofs.without_slot.Goals as goal

pub returns : goal.returns
unfolding slots_of
returns c = search (without-slot, rules)
