-- `file::carry_books::carry_books` meets its contract.
-- Assumes nothing.
use Rattle.file.proofs.carry_books.carry_books.Goals as goal

pub carry_records-requires : goal.carry_records-requires
carry_records-requires c =
    let pre = c.requires in
    record { cards_right = pre.cards_right.0; cards_value = pre.cards_right.1; size_bound = pre.size_bound; head_len = pre.head_len.0; hint_bound = (pre.head_len.1, pre.count_in_bounds_2.1, pre.head_len.2) }

pub returns : goal.returns
returns c =
    let maps = c.carry_maps.ensures in
    let records = c.carry_records.ensures in record { maps_left = record { used_left = maps.by_index; retired_left = maps.by_index_2 }; extents_left = record { extents_left = c.carry_extents.ensures }; records_left = record { head_left = records.head_after; cards_left = records.cards_after } }
