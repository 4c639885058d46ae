-- `finish_extents::made::joins_last` meets its contract.
-- Assumes nothing.
use borrow.Author.Rules.{rules}
use Rattle.finish_extents.proofs.MadeLaws.{last_none, last_some}
use Rattle.finish_extents.proofs.made.joins_last.Goals as goal

pub returns-then-count-eq0 : goal.returns-then-count-eq0
returns-then-count-eq0 c = search (last_none, rules)

pub returns : goal.returns
returns c = search (last_some, rules)
