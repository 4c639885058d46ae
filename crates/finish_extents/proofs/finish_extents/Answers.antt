-- `finish_extents::finish_extents` meets its contract.
-- Assumes nothing.
use borrow.Author.Rules.{rules}
use Rattle.finish_extents.proofs.ExchangeLaws.{book-after}
use Rattle.finish_extents.proofs.finish_extents.Goals as goal

pub returns : goal.returns
returns c = book-after _ _ _ _ _ _ _ (search rules) c.requires.whole_book.0 c.requires.count_in_bounds.1 c.requires.count_in_bounds_2 c.splice_records.ensures
