-- `finish_extents::ends::push_right` meets its contract.
-- Assumes nothing.
use borrow.Author.Rules.{rules}
use Rattle.finish_extents.proofs.EndLaws.{right-next, passed}
use Rattle.finish_extents.proofs.ends.push_right.Goals as goal

pub push_rest-more-requires : goal.push_rest-more-requires
push_rest-more-requires c = search (passed, rules)

pub returns : goal.returns
returns c = search (right-next, rules)
