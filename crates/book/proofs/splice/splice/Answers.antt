-- `book::splice::splice` meets its contract.
-- Assumes nothing.
use borrow.Author.Rules.{rules}
use Rattle.book.proofs.SpliceLaws.{spliced-bytes}
use Rattle.book.proofs.splice.splice.Goals as goal

pub returns : goal.returns
returns c = search (spliced-bytes, rules)
