-- `Search::take_group` meets its contract. The two runs, one after the other. Assumes nothing.
use Rattle.std.proofs.Common.{rules, arith}
use Rattle.allocation.proofs.GroupLaws.{group-start, collected-group}
use Rattle.allocation.proofs.search.Search.take_group.Goals as goal

pub overflow_mul-start : goal.overflow_mul-start
overflow_mul-start c = omega (arith, group-start c.args.self.now.blocks c.args.g c.requires.group)

pub group_end-end-requires : goal.group_end-end-requires
group_end-end-requires c = search (group-start, rules)

pub returns : goal.returns
returns c = search (collected-group, rules)
