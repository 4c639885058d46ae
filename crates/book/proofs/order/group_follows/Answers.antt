-- `book::order::group_follows` meets its contract.
-- Assumes nothing.
use borrow.Author.Rules.{rules}
use Rattle.book.proofs.OrderLaws.{groups-pair}
use Rattle.book.proofs.order.group_follows.Goals as goal

pub returns : goal.returns
returns c = search (groups-pair, rules)
