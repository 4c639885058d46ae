-- `checksum_group::empty_group` meets its contract.
-- Assumes nothing.
use Rattle.rules.specs.Group.{empty_group}
use Rattle.checksum_group.specs.Slots.{slots_of, group_of}
use Rattle.checksum_group.proofs.SlotLaws.{empty-slots, group-same}
use Rattle.checksum_group.proofs.empty_group.Goals as goal

pub returns : goal.returns
unfolding empty_group group_of slots_of
returns c = λ object number. group-same object number _ _ empty-slots
