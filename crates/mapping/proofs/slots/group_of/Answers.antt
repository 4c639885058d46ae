-- `mapping::slots::group_of` meets its contract.
-- Assumes nothing.
use Rattle.mapping.proofs.SlotLaws.{found-same}
use borrow.Author.Rules.{rules}
use Rattle.mapping.proofs.slots.group_of.Goals as goal

pub returns-then-number-last : goal.returns-then-number-last
returns-then-number-last c = search (found-same, rules)
