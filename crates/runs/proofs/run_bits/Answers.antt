use Rattle.std.proofs.Common.{arith}
use Rattle.runs.proofs.RunLaws.{window-clear, window-set}
use Rattle.runs.proofs.run_bits.Goals as goal

pub returns-in_default : goal.returns-in_default
returns-in_default c = window-clear _ _ _ _ _ c.loop-p.invariant (omega arith) c.in_default.ensures

pub loop-p-preserved : goal.loop-p-preserved
loop-p-preserved c = window-set _ _ _ _ _ _ c.loop-p.invariant (omega arith) c.in-Some.ensures.0 c.in-Some.ensures.1 c.in-Some.ensures.2
