-- `presence::next_slot` meets its contract.
-- Assumes nothing.
use Rattle.presence.proofs.SlotLaws.{slot_next}
use Rattle.presence.proofs.next_slot.Goals as goal

pub returns-then-present : goal.returns-then-present
returns-then-present c = slot_next _ _ _ _ _ _ c.if-present.true c.next_set.ensures

pub returns : goal.returns
returns c = slot_next _ _ _ _ _ _ c.if-present.false c.next_clear.ensures
