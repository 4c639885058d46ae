-- `presence::next_stretch` meets its contract.
-- Assumes nothing.
use borrow.Author.Rules.{rules}
use Rattle.presence.proofs.WalkLaws.{span-stretch, span-bounds}
use Rattle.presence.proofs.next_stretch.Goals as goal

pub next_unit-data-requires : goal.next_unit-data-requires
next_unit-data-requires c = record { groups_right = c.requires.groups_right; unit_le_end = search rules; placed = λ l. c.requires.placed }

pub next_unit-hole-requires : goal.next_unit-hole-requires
next_unit-hole-requires c = record { groups_right = c.requires.groups_right; unit_le_end = search rules; placed = c.next_unit-data.ensures.placed_2 }

pub returns : goal.returns
returns c =
    let slot = c.next_unit-data.ensures.next_of in
    let hole = c.next_unit-hole.ensures.next_of in
    record { end_value = span-stretch _ _ _ _ _ c.requires.unit_lt_end.0 slot hole; unit_lt_end_2 = span-bounds _ _ _ _ _ c.requires.unit_lt_end.0 slot hole; placed_2 = c.next_unit-hole.ensures.placed_2 }
