use native.Mathlib.Omega.{arith}
use Rattle.probe.proofs.ProbeLaws.{pieces_more, pieces-all}
use Rattle.probe.proofs.unit.in_pieces.Goals as goal

pub loop-at-init : goal.loop-at-init
loop-at-init c = (omega arith, omega (arith, c.begin-state.auto.w), c.begin-state.ensures)

pub loop-at-preserved : goal.loop-at-preserved
loop-at-preserved c = (omega arith, omega (arith, c.feed-state.auto.w), pieces_more _ _ _ _ _ _ _ c.loop-at.at _ (omega arith) (c.feed-state.ensures _ _ _ _ _ c.loop-at.invariant.2))

pub returns : goal.returns
returns c = c.finish.ensures _ _ _ _ (pieces-all _ _ _ _ _ _ c.loop-at.at (omega arith) c.loop-at.invariant.2)
