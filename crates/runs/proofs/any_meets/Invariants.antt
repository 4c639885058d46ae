-- `runs::any_meets` meets its contract. The invariant: what the halves passed say is said.
-- Assumes nothing.
use Rattle.runs.specs.Runs.{AnyMeets}
use Rattle.runs.proofs.any_meets.Given as goal

abbrev pub invariant-loop-k : goal.invariant-loop-k
invariant-loop-k l = AnyMeets l.map l.i l.k l.any
