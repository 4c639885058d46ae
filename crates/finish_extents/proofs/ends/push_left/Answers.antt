-- `finish_extents::ends::push_left` meets its contract.
-- Assumes nothing.
use borrow.Author.Rules.{rules}
use Rattle.finish_extents.proofs.EndLaws.{left-none, left-under, left-some}
use Rattle.finish_extents.proofs.ends.push_left.Goals as goal

pub returns-then-i-eq0 : goal.returns-then-i-eq0
returns-then-i-eq0 c = search (left-none, rules)

pub cut_before-requires : goal.cut_before-requires
cut_before-requires c = search (left-under, rules)

pub returns : goal.returns
returns c = search (left-some, rules)
