use native.Mathlib.Omega.{arith}
use borrow.Author.Rules.{rules}
use Rattle.checksum_group.proofs.SlotLaws.{slots-none, slots-more, slots-done}
use Rattle.checksum_group.proofs.put_slots.Goals as goal

pub loop-i-init : goal.loop-i-init
loop-i-init c = search (slots-none, rules)

pub loop-i-preserved : goal.loop-i-preserved
loop-i-preserved c = (omega arith, omega arith, search (slots-more, rules))

pub returns : goal.returns
returns c = search (slots-done, rules)
