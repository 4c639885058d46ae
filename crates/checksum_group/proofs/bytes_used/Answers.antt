use borrow.Author.Rules.{rules}
use Rattle.checksum_group.proofs.SlotLaws.{used-none, used-more, used-here, used_all}
use Rattle.checksum_group.proofs.bytes_used.Goals as goal

pub loop-i-init : goal.loop-i-init
loop-i-init c = search (used-none, rules)

pub returns-then-present-i-ne0 : goal.returns-then-present-i-ne0
returns-then-present-i-ne0 c = search (used-here, rules)

pub loop-i-preserved : goal.loop-i-preserved
loop-i-preserved c = search (used-more, rules)

pub returns : goal.returns
returns c = search (used_all, rules)
