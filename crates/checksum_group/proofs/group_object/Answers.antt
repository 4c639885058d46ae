-- `checksum_group::group_object` meets its contract.
-- Assumes nothing.
use borrow.Author.Rules.{rules}
use Rattle.checksum_group.proofs.SlotLaws.{group-object}
use Rattle.checksum_group.proofs.group_object.Goals as goal

pub returns : goal.returns
returns c = search (group-object, rules)
