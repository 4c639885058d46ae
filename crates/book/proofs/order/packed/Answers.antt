-- `book::order::packed` meets its contract.
-- Assumes nothing.
use borrow.Author.Rules.{rules}
use Rattle.rules.specs.Book.{zero_behind}
use Rattle.book.proofs.order.packed.Goals as goal

pub returns : goal.returns
unfolding zero_behind
returns c = search rules
