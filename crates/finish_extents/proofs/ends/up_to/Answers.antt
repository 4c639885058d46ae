-- `finish_extents::ends::up_to` meets its contract.
-- Assumes nothing.
use native.Mathlib.Omega.{arith}
use borrow.Author.Rules.{rules}
use Rattle.finish_extents.proofs.EndLaws.{up-all, up-less, up-cut}
use Rattle.finish_extents.proofs.ends.up_to.Goals as goal

pub returns-then-ends_by : goal.returns-then-ends_by
returns-then-ends_by c = search (up-all, rules)

pub overflow_cast-result : goal.overflow_cast-result
overflow_cast-result c = omega (arith, up-less _ _ _ c.ends_by.ensures c.if-ends_by.false)

pub returns : goal.returns
returns c = search (up-cut, rules)
