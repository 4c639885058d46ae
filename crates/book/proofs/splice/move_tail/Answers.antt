-- `book::splice::move_tail` meets its contract.
-- Assumes nothing.
use borrow.Author.Rules.{rules}
use Rattle.book.proofs.SpliceLaws.{tail-still}
use Rattle.book.proofs.splice.move_tail.Goals as goal

pub returns-else-b-t : goal.returns-else-b-t
returns-else-b-t c = search (tail-still, rules)
