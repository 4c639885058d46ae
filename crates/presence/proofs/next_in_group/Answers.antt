-- `presence::next_in_group` meets its contract.
-- Assumes nothing.
use Rattle.presence.proofs.SlotLaws.{unit-next}
use Rattle.presence.proofs.next_in_group.Goals as goal

pub returns : goal.returns
returns c = unit-next _ _ _ _ _ c.next_slot.ensures
