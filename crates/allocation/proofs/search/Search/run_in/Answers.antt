-- `Search::run_in` meets its contract: the lowest run between a group's ends is the group's.
use Rattle.std.proofs.Common.{rules, arith}
use Rattle.allocation.proofs.GroupLaws.{group-start}
use Rattle.allocation.proofs.RunLaws.{group-run, says_map}
use Rattle.allocation.proofs.search.Search.run_in.Goals as goal

pub overflow_mul-start : goal.overflow_mul-start
overflow_mul-start c = omega (arith, group-start c.args.self.now.blocks c.args.g c.requires.group)

pub group_end-end-requires : goal.group_end-end-requires
group_end-end-requires c = search (group-start, rules)

pub returns : goal.returns
returns c = says_map _ _ _ _ (group-run _ _ _ _ _ _ c.requires.group c.group_end-end.ensures.0 (omega arith) c.lowest_run-first.ensures) c.map.ensures.cases (λ b y p. search rules)
