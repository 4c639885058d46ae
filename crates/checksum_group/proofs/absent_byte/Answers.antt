-- `checksum_group::absent_byte` meets its contract.
-- Assumes nothing.
use borrow.Author.Rules.{rules}
use Rattle.checksum_group.proofs.SlotLaws.{full-byte}
use Rattle.checksum_group.proofs.absent_byte.Goals as goal

pub returns-then-s-at : goal.returns-then-s-at
returns-then-s-at c = search (full-byte, rules)
