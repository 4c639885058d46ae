-- `checksum_group::put_value` meets its contract.
-- Assumes nothing.
use native.Mathlib.Omega.{arith}
use borrow.Author.Rules.{rules}
use Rattle.checksum_group.proofs.SlotLaws.{value-put}
use Rattle.checksum_group.proofs.put_value.Goals as goal

pub returns : goal.returns
returns c = value-put _ _ _ _ _ _ c.requires.present_len.0 c.requires.present_len.1 (search rules) (omega arith) c.copy.ensures c.put_slots.ensures
