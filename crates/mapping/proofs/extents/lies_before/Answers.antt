-- `mapping::extents::lies_before` meets its contract.
-- Assumes nothing.
use Rattle.mapping.proofs.HeldLaws.{lies-other, lies_same}
use borrow.Author.Rules.{rules}
use Rattle.mapping.proofs.extents.lies_before.Goals as goal

pub returns-then-e-object : goal.returns-then-e-object
returns-then-e-object c = search (lies-other, rules)

pub returns : goal.returns
returns c = search (lies_same, rules)
