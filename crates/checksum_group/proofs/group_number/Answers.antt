-- `checksum_group::group_number` meets its contract.
-- Assumes nothing.
use borrow.Author.Rules.{rules}
use Rattle.checksum_group.proofs.SlotLaws.{group-number}
use Rattle.checksum_group.proofs.group_number.Goals as goal

pub returns : goal.returns
returns c = search (group-number, rules)
