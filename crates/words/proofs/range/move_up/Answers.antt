use Rattle.words.proofs.RangeLaws.{up_none, up_more}
use native.Mathlib.Omega.{arith}
use borrow.Author.Rules.{rules}
use Rattle.words.proofs.range.move_up.Goals as goal

pub loop-j-init : goal.loop-j-init
loop-j-init c = search (up_none, rules)

pub loop-j-preserved : goal.loop-j-preserved
loop-j-preserved c = (omega arith, up_more _ _ _ _ _ c.loop-j.invariant.1 (omega arith) (omega arith) (omega arith))
