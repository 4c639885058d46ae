-- `book::find::first_group` meets its contract.
-- Assumes nothing.
use borrow.Author.Rules.{rules}
use Rattle.book.proofs.HalvesLaws.{first_group}
use Rattle.book.proofs.find.first_group.Goals as goal

pub returns : goal.returns
returns c = search (first_group, rules)
