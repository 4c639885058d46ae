use borrow.Author.Rules.{rules}
use Rattle.finish_extents.proofs.SingleLaws.{blocks-none, blocks_more, blocks-all}
use Rattle.finish_extents.proofs.runs.push_blocks.Goals as goal

pub loop-f-init : goal.loop-f-init
loop-f-init c = search (blocks-none, rules)

pub loop-f-preserved : goal.loop-f-preserved
loop-f-preserved c = search (blocks_more, rules)

pub returns : goal.returns
returns c = search (blocks-all, rules)
