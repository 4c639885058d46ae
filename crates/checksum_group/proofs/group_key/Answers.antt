-- `checksum_group::group_key` meets its contract.
-- Assumes nothing.
use borrow.Author.Rules.{rules}
use Rattle.rules.specs.Group.{group_key}
use Rattle.checksum_group.proofs.group_key.Goals as goal

pub returns : goal.returns
unfolding group_key
returns c = search rules
