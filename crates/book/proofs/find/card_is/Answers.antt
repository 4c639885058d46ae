-- `book::find::card_is` meets its contract.
-- Assumes nothing.
use borrow.Author.Rules.{rules}
use Rattle.book.proofs.SearchLaws.{card-is}
use Rattle.book.proofs.find.card_is.Goals as goal

pub returns : goal.returns
returns c = search (card-is, rules)
