-- `file::carry_out::carry_out` meets its contract.
-- Assumes nothing.
use mathlib.Core.Path.{sym}
use lib.Seq.{length-take-le}
use Rattle.file.proofs.OutLaws.{store-left, flat-inside, flat-same}
use Rattle.file.proofs.carry_out.carry_out.Goals as goal

pub carry_data-requires : goal.carry_data-requires
carry_data-requires c =
    let pre = c.requires in
    record { change_fits = pre.change_fits; units_fit = pre.units_fit.0; groups_right = pre.groups_right; room_for = pre.room_for }

pub slice_bounds-carry_books-end-6 : goal.slice_bounds-carry_books-end-6
slice_bounds-carry_books-end-6 c = sym (length-take-le _ _ c.requires.units_fit.1)

pub slice_bounds-carry_books-end-7 : goal.slice_bounds-carry_books-end-7
slice_bounds-carry_books-end-7 c =
    let fit = c.requires.units_fit in
    sym (length-take-le _ _ (flat-inside _ _ _ _ _ _ _ _ fit.0 fit.1))

pub carry_books-requires : goal.carry_books-requires
carry_books-requires c =
    let pre = c.requires in
    record { kept_len = flat-same _ _ _ _ _ _ _ _ pre.units_fit.0 pre.units_fit.1; new_inside = pre.new_inside; whole_book = pre.whole_book; count_in_bounds = pre.count_in_bounds; count_in_bounds_2 = pre.count_in_bounds_2; cards_right = pre.cards_right; size_bound = pre.new_size_bound; head_len = pre.head_len }

pub returns-clause-store_left : goal.returns-clause-store_left
returns-clause-store_left c =
    let units = c.carry_data.ensures in
    let books = c.carry_books.ensures in
    store-left _ _ _ _ _ _ _ _ _ _ _ _ _ _ _ _ _ _ _ _ _ _ _ _ _ _ units.by_index units.by_index_2 books.maps_left books.extents_left books.records_left
    c.requires.whole_book.1
