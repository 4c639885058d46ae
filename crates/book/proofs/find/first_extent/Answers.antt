-- `book::find::first_extent` meets its contract.
-- Assumes nothing.
use borrow.Author.Rules.{rules}
use Rattle.book.proofs.HalvesLaws.{first-extent}
use Rattle.book.proofs.find.first_extent.Goals as goal

pub returns : goal.returns
returns c = search (first-extent, rules)
