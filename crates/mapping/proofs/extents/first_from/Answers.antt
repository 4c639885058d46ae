-- `mapping::extents::first_from` meets its contract.
-- Assumes nothing.
use native.Mathlib.Omega.{arith}
use borrow.Author.Rules.{rules}
use Rattle.mapping.proofs.HeldLaws.{floor-within, stretch-floor, stretch-next, stretch-none}
use Rattle.mapping.proofs.extents.first_from.Goals as goal

pub lies_before-requires : goal.lies_before-requires
lies_before-requires c =
    let l = floor-within c.requires c.search_extent-r.ensures.parted c.search_extent-r.ensures.searched_book _ c.in-Some.is in
    omega (arith, l, c.requires.places)

pub returns-then-not-lies_before : goal.returns-then-not-lies_before
returns-then-not-lies_before c = search (stretch-floor c.requires c.search_extent-r.ensures.parted c.search_extent-r.ensures.searched_book _ c.in-Some.is _ c.lies_before.ensures, stretch-next c.requires c.search_extent-r.ensures.parted c.search_extent-r.ensures.searched_book _ c.in-Some.is _ c.lies_before.ensures, rules)

pub returns-else-not-lies_before : goal.returns-else-not-lies_before
returns-else-not-lies_before c = search (stretch-floor c.requires c.search_extent-r.ensures.parted c.search_extent-r.ensures.searched_book _ c.in-Some.is _ c.lies_before.ensures, stretch-next c.requires c.search_extent-r.ensures.parted c.search_extent-r.ensures.searched_book _ c.in-Some.is _ c.lies_before.ensures, rules)

pub returns-in_default : goal.returns-in_default
returns-in_default c = stretch-none c.requires c.search_extent-r.ensures.parted c.search_extent-r.ensures.searched_book c.in_default.is
