-- `mapping::extents::starts_before` meets its contract.
-- Assumes nothing.
use Rattle.mapping.proofs.HeldLaws.{starts_other, starts-same}
use borrow.Author.Rules.{rules}
use Rattle.mapping.proofs.extents.starts_before.Goals as goal

pub returns-then-e-object : goal.returns-then-e-object
returns-then-e-object c = search (starts_other, rules)

pub returns : goal.returns
returns c = search (starts-same, rules)
