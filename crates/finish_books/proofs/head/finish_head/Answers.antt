-- `finish_books::head::finish_head` meets its contract.
-- Assumes nothing.
use Rattle.finish_books.proofs.HeadLaws.{head-written}
use borrow.Author.Rules.{rules}
use Rattle.finish_books.proofs.head.finish_head.Goals as goal

pub returns : goal.returns
returns c = search (head-written, rules)
