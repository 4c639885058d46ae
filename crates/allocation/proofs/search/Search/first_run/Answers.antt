use Rattle.std.proofs.Common.{arith}
use Rattle.allocation.proofs.RunLaws.{turned-run, turned-all}
use Rattle.allocation.proofs.search.Search.first_run.Goals as goal

pub returns-in-Some : goal.returns-in-Some
returns-in-Some c = turned-run _ _ _ _ _ _ _ c.loop-i.invariant c.groups_of-groups.ensures.value (omega arith) c.group_at.ensures.0 _ c.in-Some.ensures

pub returns : goal.returns
returns c = turned-all _ _ _ _ _ _ c.loop-i.invariant c.groups_of-groups.ensures.value (omega arith)
