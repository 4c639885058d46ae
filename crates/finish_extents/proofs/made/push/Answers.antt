-- `finish_extents::made::push` meets its contract.
-- Assumes nothing.
use native.Mathlib.Omega.{arith}
use borrow.Author.Rules.{rules}
use Rattle.finish_extents.proofs.MadeLaws.{last-there, last-joins, pushed-joined, pushed-apart, fits-struct}
use Rattle.finish_extents.proofs.made.push.Goals as goal

pub join_last-requires : goal.join_last-requires
join_last-requires c = search (last-there, last-joins, rules)

pub returns-then-joins_last : goal.returns-then-joins_last
returns-then-joins_last c = (omega arith, pushed-joined _ _ _ _ _ (search rules) c.requires c.joins_last.ensures c.if-joins_last.true c.join_last.ensures)

pub returns : goal.returns
returns c = search (pushed-apart, fits-struct, rules)
