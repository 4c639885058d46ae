-- `mapping::slots::group_entry` meets its contract.
-- Assumes nothing.
use Rattle.mapping.proofs.SlotLaws.{group_at, group-nothing, place-within}
use borrow.Author.Rules.{rules}
use Rattle.mapping.proofs.slots.group_entry.Goals as goal

pub overflow_mul-i : goal.overflow_mul-i
overflow_mul-i c = let l = place-within _ _ _ c.in-Some.is c.requires.group_within in search (l, rules)

pub checksum_slot_at-requires : goal.checksum_slot_at-requires
checksum_slot_at-requires c = record { group_bytes_in_bounds = place-within _ _ _ c.in-Some.is c.requires.group_within; n_lt_group_units = c.requires.k_lt_group_units }

pub returns-in-Some : goal.returns-in-Some
returns-in-Some c = rw c.in-Some.is (group_at _ _ _ _ _ c.checksum_slot_at.ensures c.slot_entry.ensures)

pub returns-in-None : goal.returns-in-None
returns-in-None c = rw c.in-None.is (group-nothing _ _)
