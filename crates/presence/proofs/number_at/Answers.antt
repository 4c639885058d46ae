-- `presence::number_at` meets its contract.
-- Assumes nothing.
use borrow.Author.Rules.{rules}
use Rattle.presence.proofs.SlotLaws.{number_past, number-other, number-here}
use Rattle.presence.proofs.number_at.Goals as goal

pub returns-then-place-n : goal.returns-then-place-n
returns-then-place-n c = search (number_past, rules)

pub returns-then-group_object-object : goal.returns-then-group_object-object
returns-then-group_object-object c = search (number-other, rules)

pub returns : goal.returns
returns c = search (number-here, rules)
