use borrow.Author.Rules.{rules}
use Rattle.checksum_group.proofs.SlotLaws.{slots-from, slots_next, slots-eight}
use Rattle.checksum_group.proofs.absent_values.Goals as goal

pub loop-k-init : goal.loop-k-init
loop-k-init c = search (slots-from, rules)

pub loop-k-preserved : goal.loop-k-preserved
loop-k-preserved c = search (slots_next, rules)

pub returns : goal.returns
returns c = search (slots-eight, rules)
