use Rattle.std.proofs.Common.{arith, ◌∙◌}
use Rattle.allocation.proofs.RunLaws.{range_nothing, range_more}
use Rattle.allocation.proofs.run.from.Goals as goal

pub loop-x-init : goal.loop-x-init
loop-x-init c = range_nothing _ _ c.new-t.ensures

pub loop-x-preserved : goal.loop-x-preserved
loop-x-preserved c = (c.push.ensures.list ∙ rw c.loop-x.invariant.0 (range_more _ _ (omega arith)), omega (arith, c.push.ensures.count, c.loop-x.invariant.1))
