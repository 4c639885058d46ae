-- `finish_extents::ends::push_next` meets its contract.
-- Assumes nothing.
use borrow.Author.Rules.{rules}
use Rattle.finish_extents.proofs.EndLaws.{next-none, next-some}
use Rattle.finish_extents.proofs.ends.push_next.Goals as goal

pub returns-then-j-n : goal.returns-then-j-n
returns-then-j-n c = search (next-none, rules)

pub returns : goal.returns
returns c = search (next-some, rules)
