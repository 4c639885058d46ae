use native.Mathlib.Omega.{arith}
use Rattle.kept.proofs.BlocksLaws.{counting-none, counting_more, counting-all}
use Rattle.kept.proofs.blocks.count_superseded.Goals as goal

pub loop-i-init : goal.loop-i-init
loop-i-init c = counting-none _ _

pub loop-i-preserved : goal.loop-i-preserved
loop-i-preserved c = counting_more _ _ _ _ c.loop-i.invariant c.loop-i-test.true _ c.is_superseded.ensures _ c.from-n.ensures

pub returns : goal.returns
returns c = rw c.requires at (counting-all _ _ _ _ c.loop-i.invariant (omega arith))
