-- `book::order::extent_follows` meets its contract.
-- Assumes nothing.
use Rattle.book.specs.Places.{follows}
use Rattle.std.proofs.Common.{arith}
use Rattle.std.proofs.lemmas.Grind.{common_steps}
use Rattle.book.proofs.order.extent_follows.Goals as goal

pub returns-then-before : goal.returns-then-before
unfolding follows
returns-then-before c = grind (arith, common_steps)

pub returns-else-before : goal.returns-else-before
unfolding follows
returns-else-before c = grind (arith, common_steps)
