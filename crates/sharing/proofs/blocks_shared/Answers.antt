use Rattle.sharing.proofs.SharingLaws.{here_on, seen_none, seen_more, seen_twice, seen_end}
use borrow.Author.Rules.{rules}
use Rattle.sharing.proofs.blocks_shared.Goals as goal

pub loop-i-init : goal.loop-i-init
loop-i-init c = search (seen_none, rules)

pub look_at_extent-requires : goal.look_at_extent-requires
look_at_extent-requires c = search (here_on, rules)

pub returns-then-look_at_extent : goal.returns-then-look_at_extent
returns-then-look_at_extent c = search (seen_twice, here_on, rules)

pub loop-i-preserved : goal.loop-i-preserved
loop-i-preserved c = search (seen_more, here_on, rules)

pub returns : goal.returns
returns c = search (seen_end, rules)
