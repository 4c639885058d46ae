-- `inspect::run_end` meets its contract.
-- Assumes nothing.
use native.Mathlib.Omega.{arith}
use Rattle.inspect.proofs.BlockLaws.{run-one, run_more}
use mathlib.Core.Bool.{not}
use mathlib.Core.Path.{ap}
use Rattle.inspect.proofs.run_end.Goals as goal

pub loop-e-init : goal.loop-e-init
loop-e-init c = run-one _ _

pub loop-e-preserved : goal.loop-e-preserved
loop-e-preserved c = run_more _ _ _ _ c.loop-e.invariant (omega arith) c.adjoins.ensures (ap not c.if-not-adjoins.false)
