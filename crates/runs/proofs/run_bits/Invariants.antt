-- `runs::run_bits` meets its contract. The invariant: no run begins before `p`. The measure is how many bits are left.
-- Assumes nothing.
use Rattle.std.proofs.Common.{◌-◌}
use Rattle.runs.specs.Runs.{Passed}
use Rattle.runs.proofs.run_bits.Given as goal

abbrev pub invariant-loop-p : goal.invariant-loop-p
invariant-loop-p l = Passed l.map l.n l.from l.end l.p

abbrev pub decreases-loop-p : goal.decreases-loop-p
decreases-loop-p l = l.end - l.p
