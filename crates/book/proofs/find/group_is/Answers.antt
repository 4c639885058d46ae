-- `book::find::group_is` meets its contract.
-- Assumes nothing.
use borrow.Author.Rules.{rules}
use Rattle.book.proofs.SearchLaws.{group-other, group-is}
use Rattle.book.proofs.find.group_is.Goals as goal

pub returns-then-group_object-object : goal.returns-then-group_object-object
returns-then-group_object-object c = search (group-is, rules)

pub returns-else-group_object-object : goal.returns-else-group_object-object
returns-else-group_object-object c = search (group-other, rules)
