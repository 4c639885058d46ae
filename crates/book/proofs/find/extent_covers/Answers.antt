-- `book::find::extent_covers` meets its contract.
-- Assumes nothing.
use borrow.Author.Rules.{rules}
use Rattle.book.proofs.SearchLaws.{extent-covers}
use Rattle.book.proofs.find.extent_covers.Goals as goal

pub returns : goal.returns
returns c = search (extent-covers, rules)
