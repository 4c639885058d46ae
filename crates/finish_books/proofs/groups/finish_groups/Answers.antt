-- `finish_books::groups::finish_groups` meets its contract.
-- Assumes nothing.
use Rattle.finish_books.proofs.MissingLaws.{room-added, there-said, groups-finished}
use borrow.Author.Rules.{rules}
use Rattle.finish_books.proofs.groups.finish_groups.Goals as goal

pub add-requires : goal.add-requires
add-requires c = record { groups_right = c.requires.groups_right; gone = (c.missing_for-m.ensures.gone, c.missing_for-m.ensures.small); count_in_bounds = room-added _ _ _ _ _ _ c.missing_for-m.ensures _ c.requires.units_right.1 c.requires.groups_in_bounds }

pub set_slots-requires : goal.set_slots-requires
set_slots-requires c = record { groups_right = c.add.ensures.right; units_len = c.requires.units_right.1; all_there = there-said _ _ _ _ _ _ _ _ _ c.missing_for-m.ensures c.add.ensures }

pub returns : goal.returns
returns c = groups-finished _ _ _ _ _ _ _ _ _ _ _ c.missing_for-m.ensures c.requires.units_right.1 c.add.ensures c.set_slots.ensures (search rules)
