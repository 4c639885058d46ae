-- `book::splice::move_down` meets its contract.
-- Assumes nothing.
use borrow.Author.Rules.{rules}
use Rattle.book.proofs.SpliceLaws.{tail-down}
use Rattle.book.proofs.splice.move_down.Goals as goal

pub returns : goal.returns
returns c = search (tail-down, rules)
