use Rattle.words.proofs.RangeLaws.{down-none, down-more}
use native.Mathlib.Omega.{arith}
use Rattle.words.proofs.range.move_down.Goals as goal

pub loop-i-init : goal.loop-i-init
loop-i-init c = down-none _ _ _

pub loop-i-preserved : goal.loop-i-preserved
loop-i-preserved c = down-more _ _ _ _ _ c.loop-i.invariant (omega arith) (omega arith) (omega arith)
