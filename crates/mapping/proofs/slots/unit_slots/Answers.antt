use native.Mathlib.Omega.{arith}
use lib.ListN.{length-set}
use Rattle.mapping.proofs.SlotLaws.{found_within, slotted-none, slotted-more, slotted-all}
use borrow.Author.Rules.{rules}
use Rattle.mapping.proofs.slots.unit_slots.Goals as goal

pub loop-i-init : goal.loop-i-init
loop-i-init c = search (slotted-none, rules)

pub group_entry-requires : goal.group_entry-requires
group_entry-requires c = record { group_within = found_within c.group_of-found.ensures c.requires.n_in_bounds; k_lt_group_units = omega arith }

pub loop-i-preserved : goal.loop-i-preserved
loop-i-preserved c = (
  omega arith,
  simp length-set c.loop-i.invariant.1,
  c.group_of-found.ensures,
  slotted-more _ _ _ _ _ _ c.loop-i.invariant.3 _ _ c.loop-i-test.true c.group_of-found.ensures c.group_entry.ensures,
)

pub returns : goal.returns
returns c = slotted-all _ _ _ _ _ _ c.loop-i.invariant.3 _ c.loop-i.invariant.1 c.loop-i-test.false
