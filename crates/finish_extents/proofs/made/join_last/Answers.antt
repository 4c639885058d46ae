-- `finish_extents::made::join_last` meets its contract.
-- Assumes nothing.
use borrow.Author.Rules.{rules}
use Rattle.finish_extents.proofs.MadeLaws.{last-read, last_written}
use Rattle.finish_extents.proofs.made.join_last.Goals as goal

pub joined-requires : goal.joined-requires
joined-requires c = search (last-read, rules)

pub returns : goal.returns
returns c = search (last_written, rules)
