-- `checksum_group::encode_group` meets its contract.
-- Assumes nothing.
use borrow.Author.Rules.{rules}
use Rattle.checksum_group.specs.Slots.{group_of, slots_of}
use Rattle.checksum_group.proofs.SlotLaws.{group-put, length-slots}
use Rattle.checksum_group.proofs.encode_group.Goals as goal

pub returns : goal.returns
unfolding group_of slots_of
returns c = search (group-put, length-slots, rules)
