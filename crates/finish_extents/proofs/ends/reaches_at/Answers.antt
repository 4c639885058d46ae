-- `finish_extents::ends::reaches_at` meets its contract.
-- Assumes nothing.
use borrow.Author.Rules.{rules}
use Rattle.finish_extents.proofs.EndLaws.{at_none, at_some}
use Rattle.finish_extents.proofs.ends.reaches_at.Goals as goal

pub returns-then-j-eq0 : goal.returns-then-j-eq0
returns-then-j-eq0 c = search (at_none, rules)

pub returns : goal.returns
returns c = search (at_some, rules)
