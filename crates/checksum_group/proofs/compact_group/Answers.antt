-- `checksum_group::compact_group` meets its contract.
-- Assumes nothing.
use borrow.Author.Rules.{rules}
use Rattle.checksum_group.specs.Slots.{slots_of}
use Rattle.checksum_group.proofs.SlotLaws.{compact-none, compact-some}
use Rattle.checksum_group.proofs.compact_group.Goals as goal

pub returns-then-used-eq0 : goal.returns-then-used-eq0
unfolding slots_of
returns-then-used-eq0 c = search (compact-none, rules)

pub returns : goal.returns
unfolding slots_of
returns c = search (compact-some, rules)
