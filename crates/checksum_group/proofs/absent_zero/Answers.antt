use borrow.Author.Rules.{rules}
use Rattle.checksum_group.proofs.SlotLaws.{bytes-none, bytes-more, bytes-all}
use Rattle.checksum_group.proofs.absent_zero.Goals as goal

pub loop-b-init : goal.loop-b-init
loop-b-init c = search (bytes-none, rules)

pub loop-b-preserved : goal.loop-b-preserved
loop-b-preserved c = search (bytes-more, rules)

pub returns : goal.returns
returns c = search (bytes-all, rules)
