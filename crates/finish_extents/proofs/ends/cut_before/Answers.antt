-- `finish_extents::ends::cut_before` meets its contract.
-- Assumes nothing.
use borrow.Author.Rules.{rules}
use Rattle.finish_extents.proofs.EndLaws.{under-starts, before-other, before_same}
use Rattle.finish_extents.proofs.ends.cut_before.Goals as goal

pub returns-then-e-object : goal.returns-then-e-object
returns-then-e-object c = search (before-other, rules)

pub up_to-requires : goal.up_to-requires
up_to-requires c = search (under-starts, rules)

pub returns : goal.returns
returns c = search (before_same, rules)
