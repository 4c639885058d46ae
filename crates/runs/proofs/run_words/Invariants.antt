-- `runs::run_words` meets its contract. The invariant: no run begins before `p`, a byte's edge. The measure is how many bits are left.
-- Assumes nothing.
use Rattle.std.proofs.Common.{◌≡◌, ◌-◌, ◌%◌}
use Rattle.runs.specs.Runs.{Passed}
use Rattle.runs.proofs.run_words.Given as goal

abbrev pub invariant-loop-p : goal.invariant-loop-p
invariant-loop-p l = (l.p % 8 ≡ 0) × Passed l.map l.n l.from l.end l.p

abbrev pub decreases-loop-p : goal.decreases-loop-p
decreases-loop-p l = l.end - l.p
