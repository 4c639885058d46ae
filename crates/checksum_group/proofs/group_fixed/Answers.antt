-- `checksum_group::group_fixed` meets its contract.
-- Assumes nothing.
use borrow.Author.Rules.{rules}
use Rattle.checksum_group.proofs.SlotLaws.{group_tag}
use Rattle.checksum_group.proofs.group_fixed.Goals as goal

pub returns : goal.returns
returns c = search (group_tag, rules)
