-- `checksum_group::with_slot` meets its contract.
-- Assumes nothing.
use borrow.Author.Rules.{rules}
use Rattle.checksum_group.specs.Slots.{slots_of}
use Rattle.checksum_group.proofs.SlotLaws.{with-slot}
use Rattle.checksum_group.proofs.with_slot.Goals as goal

pub returns : goal.returns
unfolding slots_of
returns c = search (with-slot, rules)
