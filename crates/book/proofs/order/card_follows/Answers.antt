-- `book::order::card_follows` meets its contract.
-- Assumes nothing.
use borrow.Author.Rules.{rules}
use Rattle.book.proofs.OrderLaws.{cards-pair}
use Rattle.book.proofs.order.card_follows.Goals as goal

pub returns : goal.returns
returns c = search (cards-pair, rules)
