-- `book::find::search_extent` meets its contract.
-- Assumes nothing.
use borrow.Author.Rules.{rules}
use Rattle.book.proofs.HalvesLaws.{parted-extents, floor-found, searched-found}
use Rattle.book.proofs.find.search_extent.Goals as goal

pub returns : goal.returns
returns c = record { floor_extent = search (floor-found, rules); parted = search (parted-extents, rules); searched_book = search (searched-found, rules) }
