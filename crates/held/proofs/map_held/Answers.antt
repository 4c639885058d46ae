use native.Mathlib.Omega.{arith}
use Rattle.held.proofs.SearchLaws.{mapped-none, mapped-more}
use Rattle.held.proofs.map_held.Goals as goal

pub loop-i-init : goal.loop-i-init
loop-i-init c = mapped-none _ _ _ _

pub loop-i-preserved : goal.loop-i-preserved
loop-i-preserved c = mapped-more _ _ _ _ _ _ c.loop-i-test.true c.loop-i.invariant c.held_entry.ensures

pub returns : goal.returns
returns c = λ j l. c.loop-i.invariant j (omega arith)
