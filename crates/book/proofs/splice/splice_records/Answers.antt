-- `book::splice::splice_records` meets its contract.
-- Assumes nothing.
use borrow.Author.Rules.{rules}
use Rattle.book.proofs.SpliceLaws.{spliced}
use Rattle.book.proofs.splice.splice_records.Goals as goal

pub returns : goal.returns
returns c = search (spliced, rules)
